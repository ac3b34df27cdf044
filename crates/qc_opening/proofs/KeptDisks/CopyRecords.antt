-- The bodies of a mounted copy's disk spell how it was made, with what it begins, and what the copy granted.
use Rattle.std.proofs.Common.{◌≡◌, ℕ, ◌+◌, ◌≤◌, inl, inr, List, [], ◌∷◌, ◌++◌, length, get_or, refl, sym, ap, ap₂, ◌∙◌, subst, arith, append-nil}
use Rattle.std.specs.Prelude.{map, Option, None, Some, MatchOption, option_to_list}
use Rattle.std.specs.List.{All}
use Rattle.std.proofs.lemmas.List.Elements.{All-nil, All-cons, All-append, All-head, All-tail}
use Rattle.qc_config.specs.declared.tuple.Tuple.{Tuple}
use Rattle.qc_event.specs.declared.event.Grant.{Grant}
use Rattle.qc_event.specs.declared.table.Table.{Table}
use Rattle.qc_event.specs.Tables.{first_tuple}
use Rattle.qc_codec.specs.Base.{base_in, copy_base, current_copy_base, epoch_of_base, format_in, tuples_of_base}
use Rattle.qc_codec.specs.Bodies as body
use Rattle.qc_codec.specs.Copy.{IsNextBody, MayFollow, MayStand, grant_form, grant_in, granted_in}
use Rattle.qc_codec.specs.Fields.{current, current_format}
use Rattle.qc_codec.specs.Form.{all_of}
use Rattle.qc_codec.specs.Ledger.{IsOld, made_for}
use Rattle.qc_codec.specs.declared.past.Past.{Past}
use Rattle.qc_codec.specs.declared.record.BaseRecord.{BaseRecord}
use Rattle.qc_codec.proofs.Bases.{base_behind, format_behind}
use Rattle.qc_codec.proofs.Bodies.{exact_grant, exact_made}
use Rattle.qc_codec.proofs.Exact.{IsBytes, all_takes}
use Rattle.qc_refine.specs.Images.{IsCopyBodies}
use Rattle.qc_refine.proofs.Restoring.ImageReadings.{copy_told, exact_copy_base}
use Rattle.qc_site.specs.Image.{AreGranted, AreMadeIn, made_body, to_write}
use Rattle.qc_site.specs.Mounted.{MountsCopy}
use Rattle.qc_opening.proofs.KeptDisks.InOrder.{each_holds, made_of_bytes}
use Rattle.qc_site.proofs.OfBytes.{Bytes, are_bytes}
use Rattle.qc_site.proofs.PairRenewals.{made_so}
use Rattle.qc_refine.proofs.Order.DonesWalk.{all_front}
use Rattle.qc_opening.proofs.KeptDisks.Lists.{append_mapped}

module _ (disk : ℕ) (table : Table) (past : Past) where
  -- the access of a grant stands below a top of the ledger's last epoch or an earlier one
  abbrev pub IsOfOld : Grant → Type 0
  IsOfOld g = IsOld (past.epoch + 1) g.access

  -- Bodies spell how the disk was made, with what it begins, and then these grants.
  pub record Spell (begin : List Tuple) (granted : List Grant) (bodies : List (List ℕ)) : Type 0 where
    pub tells : IsCopyBodies table begin granted disk bodies
    pub are_old : All IsOfOld granted

  -- bodies spell some grants
  abbrev pub AreSpelled : List (List ℕ) → Type 0
  AreSpelled bodies = (begin : List Tuple) × (granted : List Grant) × Spell begin granted bodies

  -- what bodies spell is what is read of them
  as_read : (begin : List Tuple) (granted : List Grant) (bodies : List (List ℕ)) → Spell begin granted bodies → Spell (tuples_of_base table (base_in copy_base bodies)) (granted_in table bodies) bodies
  as_read begin granted bodies s =
      let told = copy_told table begin granted disk bodies s.tells in
      subst (λ (b : List Tuple). Spell b (granted_in table bodies) bodies) (sym told.1) (subst (λ (gs : List Grant). Spell begin gs bodies) (sym told.0) s)

  -- ONE MORE

  add : (front : List (List ℕ)) (bytes : List ℕ) (begin : List Tuple) (granted : List Grant) (g : Grant) → Spell begin granted front → bytes ≡ (grant_form table).spell g → (grant_form table).fits g → IsOfOld g → Spell begin (granted ++ g ∷ []) (front ++ bytes ∷ [])
  add front bytes begin granted g s is fits old =
      let t = s.tells in
      record {
        tells = record {
          base = t.base;
          begin_is = t.begin_is;
          made_fits = t.made_fits;
          base_fits = t.base_fits;
          grants_fit = All-append (grant_form table).fits granted (g ∷ []) t.grants_fit (All-cons (grant_form table).fits g [] fits (All-nil (grant_form table).fits));
          are =
              ap₂ (λ (f : List (List ℕ)) (b : List ℕ). f ++ b ∷ []) t.are is
              ∙ append_mapped (grant_form table).spell (body.made.spell (made_for disk table)) (map (current_copy_base table).spell (option_to_list t.base)) granted (g ∷ []);
        };
        are_old = All-append IsOfOld granted (g ∷ []) s.are_old (All-cons IsOfOld g [] old (All-nil IsOfOld));
      }

  follow : (front : List (List ℕ)) (bytes : List ℕ) (begin : List Tuple) (granted : List Grant) (o : Option Grant) → Spell begin granted front → all_of (grant_form table) bytes ≡ o → IsBytes bytes
      → MatchOption o ⊥ (MayFollow table past (epoch_of_base (base_in copy_base front)) (granted_in table front)) → AreSpelled (front ++ bytes ∷ [])
  follow front bytes begin granted None s reads fit may = absurd may
  follow front bytes begin granted (Some g) s reads fit may =
      let one = all_takes (grant_form table) (exact_grant (current table.copies)) bytes g fit reads in
      (begin, granted ++ g ∷ [], add front bytes begin granted g s one.0 one.1 may.1)

  -- what follows is in the current format
  follow_now : (front : List (List ℕ)) (bytes : List ℕ) (begin : List Tuple) (granted : List Grant) → Spell begin granted front → IsBytes bytes → IsNextBody disk table past front bytes → AreSpelled (front ++ bytes ∷ [])
  follow_now front bytes begin granted s fit may =
      let now : format_in front ≡ current_format = ap format_in s.tells.are ∙ format_behind (made_for disk table) (map (current_copy_base table).spell (option_to_list s.tells.base) ++ map (grant_form table).spell granted) s.tells.made_fits in
      follow front bytes begin granted (all_of (grant_form table) bytes) s refl fit
      (subst (λ (f : ℕ). MatchOption (all_of (grant_in f table) bytes) ⊥ (MayFollow table past (epoch_of_base (base_in copy_base front)) (granted_in table front))) now may)

  -- a base behind the made record
  behind : (first bytes : List ℕ) (o : Option BaseRecord) → first ≡ body.made.spell (made_for disk table) → body.made.fits (made_for disk table) → all_of (current_copy_base table) bytes ≡ o → IsBytes bytes
      → MatchOption o ⊥ (λ (b : BaseRecord). b.epoch ≤ past.epoch) → AreSpelled (first ∷ bytes ∷ [])
  behind first bytes None is made_fits reads fit low = absurd low
  behind first bytes (Some b) is made_fits reads fit low =
      let one = all_takes (current_copy_base table) (exact_copy_base (made_for disk table)) bytes b fit reads in (
        b.tuples,
        [],
        record {
          tells = record {
            base = Some b;
            begin_is = refl;
            made_fits = made_fits;
            base_fits = All-cons (current_copy_base table).fits b [] one.1 (All-nil (current_copy_base table).fits);
            grants_fit = All-nil (grant_form table).fits;
            are = ap₂ (λ (f s : List ℕ). f ∷ s ∷ []) is one.0;
          };
          are_old = All-nil IsOfOld;
        },
      )

  longer : (front : List (List ℕ)) (bytes : List ℕ) → AreSpelled front → MayStand disk table past front bytes → IsBytes bytes → AreSpelled (front ++ bytes ∷ [])
  longer [] bytes (begin, granted, s) may fit = absurd (omega (arith, ap length s.tells.are))
  longer (first ∷ []) bytes (begin, granted, s) (inl base) fit =
      let is : first ≡ body.made.spell (made_for disk table) = ap (λ (bs : List (List ℕ)). get_or bs 0 []) s.tells.are in
      behind first bytes (all_of (current_copy_base table) bytes) is s.tells.made_fits refl fit
      (subst (λ (o : Option BaseRecord). MatchOption o ⊥ (λ b. b.epoch ≤ past.epoch))
      (ap (λ (f : List ℕ). base_in copy_base (f ∷ bytes ∷ [])) is ∙ base_behind copy_base (made_for disk table) bytes [] s.tells.made_fits) base)
  longer (first ∷ []) bytes (begin, granted, s) (inr may) fit = follow_now (first ∷ []) bytes begin granted s fit may
  longer (first ∷ second ∷ front) bytes (begin, granted, s) may fit = follow_now (first ∷ second ∷ front) bytes begin granted s fit may

  -- A MOUNTED COPY

  made_alone : (first : List ℕ) → first ≡ body.made.spell (made_for disk table) → body.made.fits (made_for disk table) → AreSpelled (first ∷ [])
  made_alone first is fits = (
    map first_tuple table.records,
    [],
    record {
      tells = record {
        base = None;
        begin_is = refl;
        made_fits = fits;
        base_fits = All-nil (current_copy_base table).fits;
        grants_fit = All-nil (grant_form table).fits;
        are = ap (λ (b : List ℕ). b ∷ []) is;
      };
      are_old = All-nil IsOfOld;
    },
  )

  -- a mounted copy's disk has what was found on it, where nothing stood there how it was made
  by_found : (found : List (List ℕ)) → (body.table current_format).fits table → AreMadeIn disk table current_format found → AreGranted disk table past found → All Bytes (found ++ to_write disk table found) → AreSpelled (found ++ to_write disk table found)
  by_found [] proper now granted fit = made_alone (made_body disk table) refl (made_of_bytes disk table proper (All-head Bytes (made_body disk table) [] fit))
  by_found (first ∷ rest) proper now granted fit =
      let found_fit = all_front Bytes (first ∷ rest) [] fit in
      let one = all_takes body.made exact_made first (made_for disk table) (are_bytes first (All-head Bytes first rest found_fit)) now in
      subst AreSpelled (sym (append-nil (first ∷ rest)))
      (each_holds (MayStand disk table past) AreSpelled longer (first ∷ []) rest (made_alone first one.0 one.1) granted.order (All-tail Bytes first rest found_fit))

  pub mounted : (limit : ℕ) (told : Option (List ℕ)) (records : List (List ℕ)) → (body.table current_format).fits table → MountsCopy disk table past limit current_format told records → All Bytes records
      → Spell (tuples_of_base table (base_in copy_base records)) (granted_in table records) records
  mounted limit told records proper m fit =
      let (begin, granted, s) = subst AreSpelled (sym m.all) (by_found m.found proper (made_so disk table current_format m.found m.granted.made m.format_is) m.granted (subst (All Bytes) m.all fit)) in
      as_read begin granted records s
