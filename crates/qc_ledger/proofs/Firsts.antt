-- Which fault of bodies is the first.
use Rattle.std.proofs.Common.{◌≡◌, ◌≢◌, inl, ℕ, zero, suc, ◌+◌, ◌<◌, ◌≤◌, false, true, List, [], ◌∷◌, ◌++◌, length, take, drop, get_or, refl, sym, ap, ◌∙◌, subst, arith, take-append-drop, length-take}
use mathlib.Core.Bool.{true≢false}
use Rattle.std.specs.Prelude.{Result, Ok, Err, IfErr, Option, None, Some, MatchOption, Vec, is_some, slice_index_or}
use Rattle.std.specs.Result.{IsErrAnd, IsErrOf}
use Rattle.std.specs.declared.alloc.Global.{Global}
use Rattle.std.proofs.lemmas.List.{drop_more, length-map, map-append, map_push, take_more}
use Rattle.qc_event.specs.declared.table.Table.{Table}
use Rattle.qc_codec.specs.Base.{base_in, ledger_base}
use Rattle.qc_codec.specs.Bodies as body
use Rattle.qc_codec.specs.Fields.{Layout}
use Rattle.qc_codec.specs.Form.{all_of}
use Rattle.qc_codec.specs.Gives.{Spells}
use Rattle.qc_codec.specs.Ledger.{AreInOrder, IsMade, IsNextBody, MayFollow, MayStand, made_for, past_in}
use Rattle.qc_codec.specs.declared.image.ImageFault.{ImageFault}
use Rattle.qc_codec.specs.declared.image.ImageFault.TheVariants.{Broken, Grammar, Full, Table as OtherTable, Epoch}
use Rattle.qc_codec.specs.declared.past.Past.{Past}
use Rattle.qc_codec.specs.declared.record.BaseRecord.{BaseRecord}
use Rattle.qc_codec.specs.declared.record.Made.{Made}
use Rattle.qc_codec.specs.declared.record.LedgerRecord.{LedgerRecord}
use Rattle.qc_codec.specs.declared.record.LedgerRecord.TheVariants as ledger_record
use Rattle.qc_codec.proofs.Bases.{made_spelled}
use Rattle.qc_codec.proofs.Bodies.{exact_ledger, exact_made, made_fits_ledger}
use Rattle.qc_codec.proofs.Exact.{all_again}
use Rattle.qc_codec.proofs.Fits.{made_fits, made_renewed}
use Rattle.qc_codec.proofs.Order.{each_none, each_push}
use Rattle.qc_event.specs.declared.short.Short.TheVariants.{Memory, Room}
use Rattle.qc_journal.specs.Image.{bodies_of}
use Rattle.qc_ledger.specs.Image.{made_body, AreMadeFor, IsLedgerFault}
use Rattle.qc_ledger.specs.Reading.{AreRead, IsFirstBad, IsLaterBad, IsMadeBy}
use Rattle.qc_ledger.specs.Seen.{HasNumbers, told_by, with_base, with_body}
use Rattle.qc_ledger.specs.declared.seen.Seen.{Seen}
use Rattle.qc_ledger.specs.Refusing.{IsOfLedgerImage, IsOfBytes}
use Rattle.qc_ledger.specs.declared.fault.LedgerNo.{LedgerNo}
use Rattle.qc_ledger.specs.declared.fault.LedgerNo.TheVariants.{Disk, Image, Short}
use Rattle.qc_ledger.specs.declared.fault.LedgerNo.TheVariants as ledger_no
use Rattle.qc_ledger.proofs.Told.{base_front, base_no_record, base_read, by_stands, past_base, past_push, stands_by}

-- HOW THE LEDGER WAS MADE

-- a made record is read from its body in the current format
pub made_again : (m : Made) → body.made.fits m → all_of body.ledger (made_body m.who m.table) ≡ Some (ledger_record.Made (made_for m.who m.table))
made_again m fits =
    let own = made_for m.who m.table in
    all_again body.ledger exact_ledger (ledger_record.Made own) (made_fits_ledger own (made_renewed m fits))

-- and as one of a disk
pub made_alone : (m : Made) → body.made.fits m → all_of body.made (made_body m.who m.table) ≡ Some (made_for m.who m.table)
made_alone m fits =
    let own = made_for m.who m.table in
    ap (all_of body.made) (made_spelled own) ∙ all_again body.made exact_made own (made_renewed m fits)

-- what is one of the ledger's is one of a disk
pub made_of_disk : (m : Made) → body.ledger.fits (ledger_record.Made m) → body.made.fits m
unfolding body.made
made_of_disk m fits = made_fits m fits

pub made_read : (m : Made) (bytes : List ℕ) → Spells body.ledger bytes (ledger_record.Made m) → all_of body.made bytes ≡ Some m
made_read m bytes spells = ap (all_of body.made) (spells.0 ∙ made_spelled m) ∙ all_again body.made exact_made m (made_of_disk m spells.1)

-- FAULTS

module _ (disk : ℕ) where
  pub bytes_also : (P Q : ImageFault → Type 0) → ((f : ImageFault) → P f → Q f) → (fault : LedgerNo) → IsOfBytes disk P fault → IsOfBytes disk Q fault
  bytes_also P Q also Disk is = is
  bytes_also P Q also (Image bad) is = (is.0, also bad.fault is.1)
  bytes_also P Q also (ledger_no.Full place) is = is
  bytes_also P Q also (Short Memory) is = tt
  bytes_also P Q also (Short Room) is = is

  -- what is handed on
  pub handed_on : {T : Type 0} (r : Result T LedgerNo) (fault : LedgerNo) (P Q : ImageFault → Type 0) → ((f : ImageFault) → P f → Q f) → IsErrAnd r (λ e. e ≡ fault) → IsOfBytes disk P fault → IfErr r (IsOfBytes disk Q)
  handed_on (Ok x) fault P Q also same is = tt
  handed_on (Err e) fault P Q also same is = subst (IsOfBytes disk Q) (sym same) (bytes_also P Q also fault is)

  pub first_fault : (table : Table) (limit : ℕ) (first : List ℕ) (bodies rest : List (List ℕ)) → bodies ≡ first ∷ rest → (f : ImageFault) → IsFirstBad disk table first f → IsLedgerFault disk table limit bodies f
  first_fault table limit first bodies rest is (Broken place) bad = bad
  first_fault table limit first bodies rest is (Grammar index) bad = (
    record { before = []; after = rest; item = first; split = is; size = bad.0; order = each_none (MayStand disk); breaks = bad.1 },
    λ other. absurd (other bad.0),
  )
  first_fault table limit first bodies rest is (Full place) bad = absurd bad
  first_fault table limit first bodies rest is (OtherTable kept asked) bad = (bad.0, bad.1, (λ none. let two : first ∷ rest ≡ [] = sym is ∙ none in absurd cc), subst (AreMadeFor disk kept) (sym is) bad.2)
  first_fault table limit first bodies rest is (Epoch epoch) bad = absurd bad

-- BODIES ONE BY ONE

module _ (bodies : List (Vec ℕ Global)) where
  pub with_first : (v : Vec ℕ Global) → 0 < length bodies → v ≡ get_or bodies 0 v → bodies_of bodies ≡ v.items ∷ bodies_of (drop 1 bodies)
  with_first v some is = ap bodies_of (drop_more bodies 0 v some ∙ ap (λ x. x ∷ drop 1 bodies) (sym is))

  module _ (i : ℕ) (v : Vec ℕ Global) (within : i < length bodies) (is : v ≡ get_or bodies i v) where
    pub one_more : bodies_of (take (i + 1) bodies) ≡ bodies_of (take i bodies) ++ v.items ∷ []
    one_more = ap bodies_of (take_more bodies i v within ∙ ap (λ x. take i bodies ++ x ∷ []) (sym is)) ∙ map_push (λ (b : Vec ℕ Global). b.items) (take i bodies) v

    pub parted : bodies_of bodies ≡ bodies_of (take i bodies) ++ v.items ∷ bodies_of (drop (i + 1) bodies)
    parted =
        ap bodies_of (sym (take-append-drop i bodies) ∙ ap (λ l. take i bodies ++ l) (drop_more bodies i v within ∙ ap (λ x. x ∷ drop (i + 1) bodies) (sym is)))
        ∙ map-append (λ (b : Vec ℕ Global). b.items) (take i bodies) (v ∷ drop (i + 1) bodies)

    pub so_many : i ≡ length (bodies_of (take i bodies))
    so_many = omega (arith, within, length-map (take i bodies) (λ (b : Vec ℕ Global). b.items), length-take i bodies)

    -- behind the base of all it leaves the base
    base_same : 1 ≤ i → base_in ledger_base (bodies_of (take i bodies)) ≡ base_in ledger_base (bodies_of bodies) → base_in ledger_base (bodies_of (take i bodies) ++ v.items ∷ []) ≡ base_in ledger_base (bodies_of (take i bodies))
    base_same some base = sym (base_front (bodies_of (take i bodies)) (bodies_of (drop (i + 1) bodies)) v.items (omega (arith, some, so_many))) ∙ ap (base_in ledger_base) (sym parted) ∙ sym base

    -- a body that may not stand behind those before it is the first fault
    pub later_bad : (disk : ℕ) → 1 ≤ i → base_in ledger_base (bodies_of (take i bodies)) ≡ base_in ledger_base (bodies_of bodies) → AreInOrder disk (bodies_of (take i bodies)) → (IsNextBody (bodies_of (take i bodies)) v.items → ⊥) → IsLaterBad disk (bodies_of bodies) (Grammar i)
    later_bad disk some base order never = (
      (λ none. omega (arith, some, none)),
      record {
        before = bodies_of (take i bodies);
        after = bodies_of (drop (i + 1) bodies);
        item = v.items;
        split = parted;
        size = so_many;
        order = order;
        breaks = λ may. never (by_stands disk (bodies_of (take i bodies)) v.items (omega (arith, some, so_many)) (base_same some base) may);
      },
    )

    -- a body that may stand behind those before it
    pub keeps_on : (disk : ℕ) (past : Past) (bytes : List ℕ) → 1 ≤ i → bytes ≡ v.items → base_in ledger_base (bodies_of (take i bodies)) ≡ base_in ledger_base (bodies_of bodies) → past ≡ past_in (bodies_of (take i bodies)) → AreInOrder disk (bodies_of (take i bodies))
        → MatchOption (all_of body.ledger bytes) ⊥ (MayFollow past)
        → (with_body past (all_of body.ledger bytes) ≡ past_in (bodies_of (take (i + 1) bodies))) × AreInOrder disk (bodies_of (take (i + 1) bodies)) × (base_in ledger_base (bodies_of (take (i + 1) bodies)) ≡ base_in ledger_base (bodies_of bodies))
    keeps_on disk past bytes some same base told order may =
        let so_far = bodies_of (take i bodies) in
        let one = sym one_more in
        let stands = stands_by disk so_far bytes (omega (arith, some, so_many)) (subst (λ p. MatchOption (all_of body.ledger bytes) ⊥ (MayFollow p)) told may) in
        let all : so_far ++ bytes ∷ [] ≡ bodies_of (take (i + 1) bodies) = ap (λ (b : List ℕ). so_far ++ b ∷ []) same ∙ one in
        let still : base_in ledger_base (so_far ++ bytes ∷ []) ≡ base_in ledger_base so_far = ap (λ (b : List ℕ). base_in ledger_base (so_far ++ b ∷ [])) same ∙ base_same some base in (
          ap (λ p. with_body p (all_of body.ledger bytes)) told ∙ sym (past_push so_far bytes still) ∙ ap past_in all,
          subst (AreInOrder disk) all (each_push (MayStand disk) so_far bytes order stands),
          ap (base_in ledger_base) (sym all) ∙ still ∙ base,
        )

-- THE FIRST BODIES

made_tells : (disk : ℕ) (o : Option LedgerRecord) → MatchOption o ⊥ (IsMade disk) → with_body (past_in []) o ≡ past_in []
made_tells disk None made = absurd made
made_tells disk (Some (ledger_record.Made m)) made = refl
made_tells disk (Some (ledger_record.Epoch epoch)) made = absurd made
made_tells disk (Some (ledger_record.Top top aborted)) made = absurd made

begun : (disk : ℕ) (bodies : List (Vec ℕ Global)) → 0 < length bodies → MayStand disk [] (slice_index_or (bodies_of bodies) 0 []) → (past_in (bodies_of (take 1 bodies)) ≡ past_in []) × AreInOrder disk (bodies_of (take 1 bodies))
begun disk [] some may = absurd (omega (arith, some))
begun disk (v ∷ bodies) some may = (past_push [] v.items refl ∙ made_tells disk (all_of body.ledger v.items) may, each_push (MayStand disk) [] v.items (each_none (MayStand disk)) may)

-- the first body was read, and no base stands behind it
one_read : (disk : ℕ) (bodies : List (Vec ℕ Global)) (seen : Seen) → 0 < length bodies → MayStand disk [] (slice_index_or (bodies_of bodies) 0 []) → base_in ledger_base (bodies_of bodies) ≡ None → told_by seen ≡ past_in [] → HasNumbers seen → AreRead disk bodies seen 1
one_read disk [] seen some may none told numbers = absurd (omega (arith, some))
one_read disk (v ∷ bodies) seen some may none told numbers =
    let b = begun disk (v ∷ bodies) some may in
    record { some = omega arith; within = omega (arith, some); told = told ∙ sym b.0; order = b.1; base = sym none; numbers = numbers }

pub above_one : (n : ℕ) → 0 < n → n ≢ 1 → 1 < n
above_one zero some other = absurd (omega (arith, some))
above_one (suc zero) some other = absurd (other refl)
above_one (suc (suc n)) some other = omega arith

-- there is no other
pub alone_read : (disk : ℕ) (bodies : List (Vec ℕ Global)) (seen : Seen) → length bodies ≡ 1 → MayStand disk [] (slice_index_or (bodies_of bodies) 0 []) → told_by seen ≡ past_in [] → HasNumbers seen → AreRead disk bodies seen 1
alone_read disk [] seen one may told numbers = absurd (omega (arith, one))
alone_read disk (v ∷ []) seen one may told numbers = one_read disk (v ∷ []) seen (omega arith) may refl told numbers
alone_read disk (v ∷ w ∷ bodies) seen one may told numbers = absurd (omega (arith, one))

module _ (disk : ℕ) (layout : Layout) (v : Vec ℕ Global) (bytes : List ℕ) (same : bytes ≡ v.items) (seen : Seen) where
  -- what the second is as a base
  abbrev as_base : Option BaseRecord
  as_base = all_of (body.base layout 0) bytes

  second_is : (f s : Vec ℕ Global) (bodies : List (List ℕ)) → v ≡ s → IsMadeBy layout f.items → base_in ledger_base (f.items ∷ s.items ∷ bodies) ≡ as_base
  second_is f s bodies is over = base_read layout f.items s.items bodies over ∙ ap (all_of (body.base layout 0)) (ap (λ (w : Vec ℕ Global). w.items) (sym is) ∙ sym same)

  -- it is one
  pub two_read : (bodies : List (Vec ℕ Global)) → 1 < length bodies → v ≡ get_or bodies 1 v → MayStand disk [] (slice_index_or (bodies_of bodies) 0 []) → IsMadeBy layout (slice_index_or (bodies_of bodies) 0 [])
      → is_some as_base ≡ true → told_by seen ≡ with_base (past_in []) as_base → HasNumbers seen → AreRead disk bodies seen 2
  two_read [] within is may over took told numbers = absurd (omega (arith, within))
  two_read (f ∷ []) within is may over took told numbers = absurd (omega (arith, within))
  two_read (f ∷ s ∷ bodies) within is may over took told numbers = by as_base refl took
    where
      by : (o : Option BaseRecord) → as_base ≡ o → is_some o ≡ true → AreRead disk (f ∷ s ∷ bodies) seen 2
      by None reads none = absurd (true≢false (sym none))
      by (Some b) reads one =
          let behind : base_in ledger_base (f.items ∷ s.items ∷ []) ≡ Some b = second_is f s [] is over ∙ reads in
          let none : all_of body.ledger s.items ≡ None = ap (all_of body.ledger) (ap (λ (w : Vec ℕ Global). w.items) (sym is) ∙ sym same) ∙ base_no_record layout bytes b reads in
          record {
            some = omega arith;
            within = omega (arith, within);
            told = told ∙ ap (with_base (past_in [])) reads ∙ sym (past_base disk f.items s.items b behind none may);
            order = each_push (MayStand disk) (f.items ∷ []) s.items (begun disk (f ∷ s ∷ bodies) (omega arith) may).1 (inl (ap (λ (o : Option BaseRecord). is_some o) behind));
            base = refl;
            numbers = numbers;
          }

  -- it is none
  pub no_base_read : (bodies : List (Vec ℕ Global)) → 1 < length bodies → v ≡ get_or bodies 1 v → MayStand disk [] (slice_index_or (bodies_of bodies) 0 []) → IsMadeBy layout (slice_index_or (bodies_of bodies) 0 [])
      → is_some as_base ≡ false → told_by seen ≡ with_base (past_in []) as_base → HasNumbers seen → AreRead disk bodies seen 1
  no_base_read [] within is may over took told numbers = absurd (omega (arith, within))
  no_base_read (f ∷ []) within is may over took told numbers = absurd (omega (arith, within))
  no_base_read (f ∷ s ∷ bodies) within is may over took told numbers = by as_base refl took
    where
      by : (o : Option BaseRecord) → as_base ≡ o → is_some o ≡ false → AreRead disk (f ∷ s ∷ bodies) seen 1
      by None reads none = one_read disk (f ∷ s ∷ bodies) seen (omega arith) may (second_is f s (bodies_of bodies) is over ∙ reads) (told ∙ ap (with_base (past_in [])) reads) numbers
      by (Some b) reads none = absurd (true≢false none)

-- A FAULT OF BYTES IS HANDED ON BY A MOUNTING

module _ (disk : ℕ) where
  image_of_bytes : (P Q : ImageFault → Type 0) → ((f : ImageFault) → P f → Q f) → (fault : LedgerNo) → IsOfBytes disk P fault → IsOfLedgerImage disk Q fault
  image_of_bytes P Q also Disk is = tt
  image_of_bytes P Q also (Image bad) is = (is.0, also bad.fault is.1)
  image_of_bytes P Q also (ledger_no.Full place) is = is
  image_of_bytes P Q also (Short Memory) is = tt
  image_of_bytes P Q also (Short Room) is = is

  pub passed_on : {T : Type 0} (r : Result T LedgerNo) (fault : LedgerNo) (P Q : ImageFault → Type 0) → ((f : ImageFault) → P f → Q f) → IsErrAnd r (λ e. e ≡ fault) → IsOfBytes disk P fault → IfErr r (IsOfLedgerImage disk Q)
  passed_on (Ok x) fault P Q also same is = tt
  passed_on (Err e) fault P Q also same is = subst (IsOfLedgerImage disk Q) (sym same) (image_of_bytes P Q also fault is)

  pub no_disk : {T : Type 0} (r : Result T LedgerNo) (fault : LedgerNo) (P : ImageFault → Type 0) → IsErrAnd r (λ e. e ≡ fault) → IsOfBytes disk P fault → IsErrOf r Disk → ⊥
  no_disk (Ok x) fault P same is of = absurd cc
  no_disk (Err e) fault P same is of = let one : e ≡ Disk = cc in subst (IsOfBytes disk P) (sym same ∙ one) is
