-- The bodies of a mounted ledger spell its records: how it was made, maybe a base, older ones, and the mounting's epoch.
use Rattle.std.proofs.Common.{◌≡◌, ℕ, ◌+◌, ◌<◌, ◌≤◌, inl, inr, true, List, [], ◌∷◌, ◌++◌, length, get_or, refl, sym, ap, ap₂, ◌∙◌, subst, arith, append-nil}
use mathlib.Core.Bool.{true≢false}
use Rattle.std.specs.Prelude.{◌-◌, map, is_some, Option, None, Some, MatchOption, option_to_list, unwrap_or, ◌^◌}
use Rattle.std.specs.List.{All, cons_option, filter_map, last_or, range_with_len}
use Rattle.std.specs.Option.{option_map}
use Rattle.std.proofs.lemmas.List.Elements.{All-nil, All-cons, All-append, All-head, All-tail, All-weaker, filter_map-append}
use Rattle.qc_event.specs.declared.table.Table.{Table}
use Rattle.qc_event.specs.History.{Name}
use Rattle.qc_codec.specs.Base.{base_in, epoch_of_base, ledger_base}
use Rattle.qc_codec.specs.Bodies as body
use Rattle.qc_codec.specs.Form.{all_of}
use Rattle.qc_codec.specs.Ledger.{IsNextBody, IsOld, MayFollow, MayStand, logged_in, made_for, made_in, past_in, readings}
use Rattle.qc_codec.specs.declared.past.Logged.{Logged}
use Rattle.qc_codec.specs.declared.past.Past.{Past}
use Rattle.qc_codec.specs.declared.record.BaseRecord.{BaseRecord}
use Rattle.qc_codec.specs.declared.record.LedgerRecord.{LedgerRecord}
use Rattle.qc_codec.specs.declared.record.LedgerRecord.TheVariants.{Made, Epoch, Top}
use Rattle.qc_codec.specs.declared.record.Made.{Made as MadeRecord}
use Rattle.qc_codec.proofs.Bases.{base_behind, ledger_base_told, made_spelled, record_no_base}
use Rattle.qc_codec.proofs.Bodies.{exact_ledger, made_fits_ledger}
use Rattle.qc_codec.proofs.Exact.{IsBytes, all_again, all_takes}
use Rattle.qc_codec.specs.Fields.{current_format}
use Rattle.qc_ledger.specs.Image.{AreLedgers, epoch_body, made_body, to_write}
use Rattle.qc_ledger.specs.Mounted.{MountsLedger}
use Rattle.qc_ledger.proofs.Firsts.{made_of_disk}
use Rattle.qc_ledger.proofs.Writing.{epoch_fits}
use Rattle.qc_refine.specs.Images.{IsLedgerBodies}
use Rattle.qc_refine.proofs.Restoring.ImageReadings.{base_read, exact_ledger_base, read_again}
use Rattle.qc_opening.proofs.KeptDisks.InOrder.{each_holds, made_of_bytes}
use Rattle.qc_site.proofs.OfBytes.{Bytes, are_bytes}
use Rattle.qc_refine.proofs.Order.DonesWalk.{all_front}
use Rattle.qc_opening.proofs.KeptDisks.Lists.{append_mapped, last_number, next_counted, range_more}

-- OLDER RECORDS

-- a name below a top of an earlier epoch is so later
pub old_later : (e f : ℕ) (n : Name) → e ≤ f → IsOld e n → IsOld f n
old_later e f [] le old = old
old_later e f (x ∷ n) le old = omega (arith, le, old)

-- tops of earlier epochs
abbrev pub AreOld : ℕ → List Logged → Type 0
AreOld epoch tops = All (λ (l : Logged). IsOld epoch l.top) tops

older_later : (e f : ℕ) (tops : List Logged) → e ≤ f → AreOld e tops → AreOld f tops
older_later e f tops le old = All-weaker (λ (l : Logged). IsOld e l.top) (λ (l : Logged). IsOld f l.top) (λ l is. old_later e f l.top le is) tops old

module _ (format disk : ℕ) (table : Table) where
  -- how the disk was made
  abbrev how : MadeRecord
  how = made_in format disk table

  -- the bodies of a base, where there is one
  abbrev bases : Option BaseRecord → List (List ℕ)
  bases base = map (ledger_base how).spell (option_to_list base)

  -- the body of the made record, that of a base where there is one, and those of records
  abbrev all_spelled : Option BaseRecord → List LedgerRecord → List (List ℕ)
  all_spelled base records = body.made.spell how ∷ (bases base ++ map body.ledger.spell records)

  -- Bodies spell how the disk was made, maybe a base, and then these records, whose epochs count up to one.
  pub record Spell (base : Option BaseRecord) (epoch : ℕ) (old : List LedgerRecord) (bodies : List (List ℕ)) : Type 0 where
    pub spelled : bodies ≡ all_spelled base old
    pub made_fits : body.made.fits how
    pub base_fits : All (ledger_base how).fits (option_to_list base)
    pub fit : All body.ledger.fits old
    pub made_once : filter_map body.made_of old ≡ []
    pub no_earlier : epoch_of_base base ≤ epoch
    pub epochs : filter_map body.epoch_of old ≡ range_with_len (epoch_of_base base + 1) (epoch - epoch_of_base base)
    pub are_old : AreOld (epoch + 1) (filter_map logged_in old)

  -- bodies spell some records
  abbrev pub AreSpelled : List (List ℕ) → Type 0
  AreSpelled bodies = (base : Option BaseRecord) × (epoch : ℕ) × (old : List LedgerRecord) × Spell base epoch old bodies

  -- WHAT THEY TELL

  abbrev told_by : Option BaseRecord → ℕ → List LedgerRecord → Past
  told_by base epoch old = record { epoch = epoch; base = option_map (λ (b : BaseRecord). b.epoch) base; tops = filter_map logged_in old }

  base_known : (base : Option BaseRecord) (old : List LedgerRecord) → body.made.fits how → All (ledger_base how).fits (option_to_list base) → base_in ledger_base (all_spelled base old) ≡ base
  base_known base old made_fits fits = base_read how ledger_base body.ledger (exact_ledger_base how) (record_no_base how) made_fits base fits old

  records_known : (base : Option BaseRecord) (old : List LedgerRecord) → body.made.fits how → All body.ledger.fits old → readings body.ledger (all_spelled base old) ≡ Made how ∷ old
  records_known base old made_fits fit =
      ap₂ (λ (o : Option LedgerRecord) (rs : List LedgerRecord). cons_option o rs)
      (ap (all_of body.ledger) (sym (made_spelled how)) ∙ all_again body.ledger exact_ledger (Made how) (made_fits_ledger how made_fits))
      (behind_base base ∙ read_again body.ledger exact_ledger old fit)
    where
      behind_base : (b : Option BaseRecord) → readings body.ledger (bases b ++ map body.ledger.spell old) ≡ readings body.ledger (map body.ledger.spell old)
      behind_base None = refl
      behind_base (Some b) = ledger_base_told how b (map body.ledger.spell old)

  -- what bodies tell that spell records
  tell : (base : Option BaseRecord) (epoch : ℕ) (old : List LedgerRecord) (bodies : List (List ℕ)) → Spell base epoch old bodies → past_in bodies ≡ told_by base epoch old
  tell base epoch old bodies s =
      ap past_in s.spelled
      ∙ ap₂ (λ (b : Option BaseRecord) (rs : List LedgerRecord). told_by b (unwrap_or (last_or None (filter_map body.epoch_of rs)) (epoch_of_base b)) rs)
      (base_known base old s.made_fits s.base_fits) (records_known base old s.made_fits s.fit)
      ∙ ap (λ (es : List ℕ). told_by base (unwrap_or (last_or None es) (epoch_of_base base)) old) s.epochs
      ∙ ap (λ (e : ℕ). told_by base e old) (last_number (epoch_of_base base) (epoch - epoch_of_base base) ∙ omega (arith, s.no_earlier))

  -- ONE MORE

  module _ (front : List (List ℕ)) (bytes : List ℕ) (base : Option BaseRecord) (epoch : ℕ) (old : List LedgerRecord) (s : Spell base epoch old front) where
    more : (r : LedgerRecord) → bytes ≡ body.ledger.spell r → front ++ bytes ∷ [] ≡ all_spelled base (old ++ r ∷ [])
    more r is =
        ap₂ (λ (f : List (List ℕ)) (b : List ℕ). f ++ b ∷ []) s.spelled is
        ∙ append_mapped body.ledger.spell (body.made.spell how) (bases base) old (r ∷ [])

    more_fit : (r : LedgerRecord) → body.ledger.fits r → All body.ledger.fits (old ++ r ∷ [])
    more_fit r fits = All-append body.ledger.fits old (r ∷ []) s.fit (All-cons body.ledger.fits r [] fits (All-nil body.ledger.fits))

    next_epoch : (next : ℕ) → bytes ≡ body.ledger.spell (Epoch next) → body.ledger.fits (Epoch next) → next ≡ epoch + 1 → Spell base next (old ++ Epoch next ∷ []) (front ++ bytes ∷ [])
    next_epoch next is fits may =
        let from = epoch_of_base base in
        let counted = next_counted from epoch next s.no_earlier may in
        record {
          spelled = more (Epoch next) is;
          made_fits = s.made_fits;
          base_fits = s.base_fits;
          fit = more_fit (Epoch next) fits;
          made_once = filter_map-append body.made_of old (Epoch next ∷ []) ∙ append-nil (filter_map body.made_of old) ∙ s.made_once;
          no_earlier = let low = s.no_earlier in omega (arith, may, low);
          epochs =
              filter_map-append body.epoch_of old (Epoch next ∷ [])
              ∙ ap₂ (λ (l : List ℕ) (k : ℕ). l ++ k ∷ []) s.epochs counted.0
              ∙ sym (range_more (from + 1) (epoch - from))
              ∙ ap (range_with_len (from + 1)) counted.1;
          are_old = subst (AreOld (next + 1)) (sym (filter_map-append logged_in old (Epoch next ∷ []) ∙ append-nil (filter_map logged_in old)))
              (older_later (epoch + 1) (next + 1) (filter_map logged_in old) (omega (arith, may)) s.are_old);
        }

    next_top : (n : ℕ) (aborted : List Name) (r : LedgerRecord) → r ≡ Top (n ∷ []) aborted → bytes ≡ body.ledger.spell r → body.ledger.fits r → IsOld (epoch + 1) (n ∷ []) → Spell base epoch (old ++ r ∷ []) (front ++ bytes ∷ [])
    next_top n aborted r top is fits of_last = record {
      spelled = more r is;
      made_fits = s.made_fits;
      base_fits = s.base_fits;
      fit = more_fit r fits;
      made_once = filter_map-append body.made_of old (r ∷ []) ∙ ap (λ x. filter_map body.made_of old ++ filter_map body.made_of (x ∷ [])) top ∙ append-nil (filter_map body.made_of old) ∙ s.made_once;
      no_earlier = s.no_earlier;
      epochs = filter_map-append body.epoch_of old (r ∷ []) ∙ ap (λ x. filter_map body.epoch_of old ++ filter_map body.epoch_of (x ∷ [])) top ∙ append-nil (filter_map body.epoch_of old) ∙ s.epochs;
      are_old = subst (AreOld (epoch + 1)) (sym (filter_map-append logged_in old (r ∷ []) ∙ ap (λ x. filter_map logged_in old ++ filter_map logged_in (x ∷ [])) top))
          (All-append (λ (l : Logged). IsOld (epoch + 1) l.top) (filter_map logged_in old) (record { top = n ∷ []; aborted = aborted } ∷ []) s.are_old
          (All-cons (λ (l : Logged). IsOld (epoch + 1) l.top) (record { top = n ∷ []; aborted = aborted }) [] of_last (All-nil (λ (l : Logged). IsOld (epoch + 1) l.top))));
    }

    add : (r : LedgerRecord) → bytes ≡ body.ledger.spell r → body.ledger.fits r → MayFollow (told_by base epoch old) r → AreSpelled (front ++ bytes ∷ [])
    add (Made m) is fits may = absurd may
    add (Epoch next) is fits may = (base, next, old ++ Epoch next ∷ [], next_epoch next is fits may)
    add (Top [] aborted) is fits may = absurd may
    add (Top (n ∷ k ∷ rest) aborted) is fits may = absurd may
    add (Top (n ∷ []) aborted) is fits may = let now = may.0 in (base, epoch, old ++ Top (n ∷ []) aborted ∷ [], next_top n aborted (Top (n ∷ []) aborted) refl is fits (omega (arith, now)))

    by_reading : (o : Option LedgerRecord) → all_of body.ledger bytes ≡ o → IsBytes bytes → MatchOption o ⊥ (MayFollow (told_by base epoch old)) → AreSpelled (front ++ bytes ∷ [])
    by_reading None reads fit may = absurd may
    by_reading (Some r) reads fit may = let one = all_takes body.ledger exact_ledger bytes r fit reads in add r one.0 one.1 may

    follow : IsNextBody front bytes → IsBytes bytes → AreSpelled (front ++ bytes ∷ [])
    follow may fit = by_reading (all_of body.ledger bytes) refl fit (subst (λ p. MatchOption (all_of body.ledger bytes) ⊥ (MayFollow p)) (tell base epoch old front s) may)

  -- A BASE BEHIND THE MADE RECORD

  -- with it counting starts anew
  base_alone : (first bytes : List ℕ) (b : BaseRecord) → first ≡ body.made.spell how → body.made.fits how → bytes ≡ (ledger_base how).spell b → (ledger_base how).fits b → Spell (Some b) b.epoch [] (first ∷ bytes ∷ [])
  base_alone first bytes b is made_fits spelled fits = record {
    spelled = ap₂ (λ (f s : List ℕ). f ∷ s ∷ []) is spelled;
    made_fits = made_fits;
    base_fits = All-cons (ledger_base how).fits b [] fits (All-nil (ledger_base how).fits);
    fit = All-nil body.ledger.fits;
    made_once = refl;
    no_earlier = omega arith;
    epochs = let none : 0 ≡ b.epoch - b.epoch = omega arith in ap (range_with_len (b.epoch + 1)) none;
    are_old = All-nil (λ (l : Logged). IsOld (b.epoch + 1) l.top);
  }

  behind : (first bytes : List ℕ) (o : Option BaseRecord) → first ≡ body.made.spell how → body.made.fits how → all_of (ledger_base how) bytes ≡ o → is_some o ≡ true → IsBytes bytes → AreSpelled (first ∷ bytes ∷ [])
  behind first bytes None is made_fits reads some fit = absurd (true≢false (sym some))
  behind first bytes (Some b) is made_fits reads some fit =
      let one = all_takes (ledger_base how) (exact_ledger_base how) bytes b fit reads in
      (Some b, b.epoch, [], base_alone first bytes b is made_fits one.0 one.1)

  longer : (front : List (List ℕ)) (bytes : List ℕ) → AreSpelled front → MayStand disk front bytes → IsBytes bytes → AreSpelled (front ++ bytes ∷ [])
  longer [] bytes (base, epoch, old, s) may fit = absurd (omega (arith, ap length s.spelled))
  longer (first ∷ []) bytes (base, epoch, old, s) (inl some) fit =
      let is : first ≡ body.made.spell how = ap (λ (bs : List (List ℕ)). get_or bs 0 []) s.spelled in
      let reads : base_in ledger_base (first ∷ bytes ∷ []) ≡ all_of (ledger_base how) bytes = ap (λ (f : List ℕ). base_in ledger_base (f ∷ bytes ∷ [])) is ∙ base_behind ledger_base how bytes [] s.made_fits in
      behind first bytes (all_of (ledger_base how) bytes) is s.made_fits refl (ap is_some (sym reads) ∙ some) fit
  longer (first ∷ []) bytes (base, epoch, old, s) (inr may) fit = follow (first ∷ []) bytes base epoch old s may fit
  longer (first ∷ second ∷ front) bytes (base, epoch, old, s) may fit = follow (first ∷ second ∷ front) bytes base epoch old s may fit

-- A MOUNTED LEDGER

module _ (disk : ℕ) (table : Table) where
  -- The records of a mounted ledger: how it was made, maybe a base, older ones, and the mounting's epoch.
  pub record Mounted (past : Past) (epoch : ℕ) (records : List (List ℕ)) : Type 0 where
    pub tells : IsLedgerBodies table epoch past.tops [] disk records
    pub are_old : AreOld epoch past.tops

  -- the next epoch behind records
  written : (format : ℕ) (bodies : List (List ℕ)) (past : Past) (epoch last : ℕ) (base : Option BaseRecord) (old : List LedgerRecord) → Spell format disk table base last old bodies → past ≡ past_in bodies → epoch ≡ past.epoch + 1 → epoch < 2 ^ 32
      → Mounted past epoch (bodies ++ epoch_body ((past_in bodies).epoch + 1) ∷ [])
  written format bodies past epoch last base old s is next small =
      let told : past ≡ told_by format disk table base last old = is ∙ tell format disk table base last old bodies s in
      let tops : filter_map logged_in old ≡ past.tops = sym (ap (λ (p : Past). p.tops) told) in
      let same : epoch ≡ last + 1 = next ∙ ap (λ (p : Past). p.epoch + 1) told in
      let this : (past_in bodies).epoch + 1 ≡ epoch = ap (λ (p : Past). p.epoch + 1) (sym is) ∙ sym next in
      let fits : body.ledger.fits (Epoch epoch) = subst (λ e. body.ledger.fits (Epoch e)) (sym same) (epoch_fits last (omega (arith, same, small))) in
      let more = next_epoch format disk table bodies (epoch_body ((past_in bodies).epoch + 1)) base last old s epoch (ap epoch_body this) fits same in
      record {
        tells = record {
          format = format;
          base = base;
          old = old;
          made_once = s.made_once;
          old_tops = tops;
          epochs = sym (filter_map-append body.epoch_of old (Epoch epoch ∷ [])) ∙ more.epochs;
          made_fits = s.made_fits;
          base_fits = s.base_fits;
          fit = more.fit;
          are = more.spelled;
        };
        are_old = subst (AreOld epoch) tops (subst (λ e. AreOld e (filter_map logged_in old)) (sym same) s.are_old);
      }

  -- what a mounting leaves on a disk of the ledger's
  module _ (past : Past) (epoch : ℕ) (proper : (body.table current_format).fits table) (small : epoch < 2 ^ 32) where
    made_alone : (format : ℕ) (first : List ℕ) → first ≡ body.ledger.spell (Made (made_in format disk table)) → body.made.fits (made_in format disk table) → Spell format disk table None 0 [] (first ∷ [])
    made_alone format first is made_fits = record {
      spelled = ap (λ (b : List ℕ). b ∷ []) (is ∙ made_spelled (made_in format disk table));
      made_fits = made_fits;
      base_fits = All-nil (ledger_base (made_in format disk table)).fits;
      fit = All-nil body.ledger.fits;
      made_once = refl;
      no_earlier = omega arith;
      epochs = refl;
      are_old = All-nil (λ (l : Logged). IsOld 1 l.top);
    }

    -- bodies that were found spell records in their format
    found_spelled : (first : List ℕ) (rest : List (List ℕ)) (ledgers : AreLedgers disk table (first ∷ rest)) → All Bytes (first ∷ rest) → AreSpelled ledgers.made.0 disk table (first ∷ rest)
    found_spelled first rest ledgers fit =
        let format = ledgers.made.0 in
        let here = All-head Bytes first rest fit in
        let one = all_takes body.ledger exact_ledger first (Made (made_in format disk table)) (are_bytes first here) ledgers.made.1 in
        each_holds (MayStand disk) (AreSpelled format disk table) (longer format disk table) (first ∷ []) rest
        (None, 0, [], made_alone format first one.0 (made_of_disk (made_in format disk table) one.1)) ledgers.order (All-tail Bytes first rest fit)

    by_found : (found : List (List ℕ)) → AreLedgers disk table found → past ≡ past_in found → epoch ≡ past.epoch + 1 → All Bytes (found ++ to_write disk table found) → Mounted past epoch (found ++ to_write disk table found)
    by_found [] ledgers is next fit =
        let here = subst Bytes (made_spelled (made_for disk table)) (All-head Bytes (made_body disk table) (epoch_body ((past_in []).epoch + 1) ∷ []) fit) in
        let made = made_alone current_format (made_body disk table) refl (made_of_bytes disk table proper here) in
        let told : past_in (made_body disk table ∷ []) ≡ told_by current_format disk table None 0 [] = tell current_format disk table None 0 [] (made_body disk table ∷ []) made in
        subst (λ (e : ℕ). Mounted past epoch (made_body disk table ∷ epoch_body (e + 1) ∷ [])) (ap (λ (p : Past). p.epoch) told)
        (written current_format (made_body disk table ∷ []) past epoch 0 None [] made (is ∙ sym told) next small)
    by_found (first ∷ rest) ledgers is next fit =
        let (base, last, old, s) = found_spelled first rest ledgers (all_front Bytes (first ∷ rest) (to_write disk table (first ∷ rest)) fit) in
        written ledgers.made.0 (first ∷ rest) past epoch last base old s is next small

    pub mounted : (limit : ℕ) (told : Option (List ℕ)) (records : List (List ℕ)) → MountsLedger disk table limit told records past epoch → All Bytes records → Mounted past epoch records
    mounted limit told records m fit = subst (Mounted past epoch) (sym m.all) (by_found m.found m.ledgers m.past_is m.next (subst (All Bytes) m.all fit))
