-- Bodies that are grants, and what a journal's fault is to a reading back.
use Rattle.std.proofs.Common.{◌≡◌, ℕ, ◌+◌, ◌<◌, ◌≤◌, List, [], ◌∷◌, ◌++◌, length, get_or, take, drop, refl, sym, ap, ap₂, ◌∙◌, subst, arith}
use Rattle.std.specs.Prelude.{Bool, true, false, Option, None, Some, IfErr, IfOk, IfSome, Result, Ok, Err, OnOk, OnErr, Vec, map, slice_get}
use Rattle.std.specs.declared.alloc.Global.{Global}
use Rattle.std.proofs.lemmas.List.{drop-map, get_or-map, length-map, map_push, take-map}
use Rattle.qc_event.specs.declared.event.Grant.{Grant}
use Rattle.qc_codec.specs.Bodies as body
use Rattle.qc_codec.specs.Fields.{current}
use Rattle.qc_codec.specs.Form.{all_of}
use Rattle.qc_codec.specs.Gives.{Refuses}
use Rattle.qc_codec.specs.declared.fault.CodecNo.{CodecNo}
use Rattle.qc_codec.specs.declared.fault.CodecNo.TheVariants.{Bad}
use Rattle.qc_journal.specs.Fault.{IsOfReading}
use Rattle.qc_journal.specs.Image.{HasRecords, IsBroken, bodies_of}
use Rattle.qc_journal.specs.declared.fault.Fault.{Fault}
use Rattle.qc_journal.specs.declared.fault.Fault.TheVariants.{Disk, Broken, Full, Memory}
use Rattle.qc_ledger.proofs.Firsts.{one_more}
use Rattle.qc_site.specs.Back.{AreGrants, IsAnswer, IsFirstApart, IsFirstUnread, IsWithHand, Says, Stand, back_no}
use Rattle.qc_site.specs.declared.back.BackNo.{BackNo}
use Rattle.qc_site.specs.declared.back.BackNo.TheVariants as no_back
use Rattle.qc_site.specs.declared.back.Strange.TheVariants as strange

module _ (copies : ℕ) (bodies : List (Vec ℕ Global)) (i : ℕ) (v : Vec ℕ Global) (within : i < length bodies) (is : v ≡ get_or bodies i v) (gs : List Grant) (so_far : AreGrants copies gs (bodies_of (take i bodies)))
    (bytes : List ℕ) (same : bytes ≡ v.items) where
  -- a body that is no grant is the first
  pub unread : (fault : CodecNo) → fault ≡ Bad → Refuses fault (all_of (body.grant (current copies)) bytes) → IsFirstUnread copies i (bodies_of bodies)
  unread fault bad refuses = (
    omega (arith, within, length-map bodies (λ (b : Vec ℕ Global). b.items)),
    ap (all_of (body.grant (current copies))) (get_or-map (λ (b : Vec ℕ Global). b.items) bodies i v [] within ∙ ap (λ (b : Vec ℕ Global). b.items) (sym is) ∙ sym same) ∙ subst (λ f. Refuses f (all_of (body.grant (current copies)) bytes)) bad refuses,
    (gs, ap (map (all_of (body.grant (current copies)))) (take-map (λ (b : Vec ℕ Global). b.items) i bodies) ∙ so_far),
  )

  -- one that is a grant joins them
  pub read_more : (g : Grant) → all_of (body.grant (current copies)) bytes ≡ Some g → AreGrants copies (gs ++ g ∷ []) (bodies_of (take (i + 1) bodies))
  read_more g read =
      ap (map (all_of (body.grant (current copies)))) (one_more bodies i v within is)
      ∙ map_push (all_of (body.grant (current copies))) (bodies_of (take i bodies)) v.items
      ∙ ap₂ (λ (xs : List (Option Grant)) (x : Option Grant). xs ++ x ∷ []) so_far (ap (all_of (body.grant (current copies))) (sym same) ∙ read)
      ∙ sym (map_push Some gs g)

module _ (copies old : ℕ) (given : List Grant) (hand : Option Grant) where
  answer_of : (bodies : List (List ℕ)) (answer : Result Bool BackNo) (image : List ℕ) → HasRecords bodies image → Says copies old given hand bodies answer → IsAnswer copies old given hand answer image
  answer_of bodies (Ok true) image has says = (bodies, has, says)
  answer_of bodies (Ok false) image has says = (bodies, has, says)
  answer_of bodies (Err no_back.Disk) image has says = tt
  answer_of bodies (Err no_back.Memory) image has says = tt
  answer_of bodies (Err (no_back.Strange (strange.Broken place))) image has says = absurd says
  answer_of bodies (Err (no_back.Strange (strange.Grammar index))) image has says = (bodies, has, says)
  answer_of bodies (Err (no_back.Strange (strange.Short records had))) image has says = (bodies, has, says)
  answer_of bodies (Err (no_back.Strange (strange.Differs index disk desk))) image has says = (bodies, has, says)

  -- what the records say that a disk tells
  pub answer_told : (told : Option (List ℕ)) (bodies : List (List ℕ)) (answer : Result Bool BackNo) → IfSome told (HasRecords bodies) → Says copies old given hand bodies answer → IfSome told (IsAnswer copies old given hand answer)
  answer_told None bodies answer has says = tt
  answer_told (Some image) bodies answer has says = answer_of bodies answer image has says

  -- what a fault of the journal is told as
  pub fault_told : (told : Option (List ℕ)) (fault : Fault) → IsOfReading fault → ((place : ℕ) → fault ≡ Broken place → IfSome told (IsBroken place)) → IfSome told (IsAnswer copies old given hand (Err (back_no fault)))
  fault_told None fault of broken = tt
  fault_told (Some image) Disk of broken = tt
  fault_told (Some image) (Broken place) of broken = broken place refl
  fault_told (Some image) (Full place) of broken = absurd of
  fault_told (Some image) Memory of broken = tt

-- after an answer with a refusal too
pub on_err : {T E P : Type 0} (r : Result T E) → P → OnErr r P
on_err (Ok x) p = tt
on_err (Err e) p = p

-- the bodies behind older ones
pub rest_of : (found : List (Vec ℕ Global)) (old : ℕ) → bodies_of (drop old found) ≡ drop old (bodies_of found)
rest_of found old = sym (drop-map (λ (b : Vec ℕ Global). b.items) old found)

module _ (copies old : ℕ) (given : List Grant) (hand : Option Grant) (found rest : List (Vec ℕ Global)) (is : rest ≡ drop old found) (few : old ≤ length found) where
  there : bodies_of rest ≡ drop old (bodies_of found)
  there = ap bodies_of is ∙ rest_of found old

  so_many : old ≤ length (bodies_of found)
  so_many = omega (arith, few, length-map found (λ (b : Vec ℕ Global). b.items))

  -- a body behind the older ones that is no grant
  pub says_unread : (read : Result (Vec Grant Global) ℕ) (index : ℕ) → read ≡ Err index → IfErr read (λ i. IsFirstUnread copies i (bodies_of rest)) → Says copies old given hand (bodies_of found) (Err (no_back.Strange (strange.Grammar (old + index))))
  says_unread read index was unread = (so_many, (index, refl, subst (IsFirstUnread copies index) there (subst (λ (r : Result (Vec Grant Global) ℕ). IfErr r (λ i. IsFirstUnread copies i (bodies_of rest))) was unread)))

  -- the grants behind the older ones
  pub stand_there : (read : Result (Vec Grant Global) ℕ) (grants : Vec Grant Global) → read ≡ Ok grants → IfOk read (λ g. AreGrants copies g.items (bodies_of rest)) → Stand copies old given hand (bodies_of found) grants.items
  stand_there read grants was are = (so_many, subst (AreGrants copies grants.items) there (subst (λ (r : Result (Vec Grant Global) ℕ). IfOk r (λ g. AreGrants copies g.items (bodies_of rest))) was are))

module _ (copies old : ℕ) (given : List Grant) (hand : Option Grant) (bodies : List (List ℕ)) (gs : List Grant) (stand : Stand copies old given hand bodies gs) where
  pub says_stands : (stands : Bool) → ((ok : Bool) → stands ≡ ok → ok ≡ true → IsWithHand given hand gs) → ((ok : Bool) → stands ≡ ok → ok ≡ false → gs ≡ given) → Says copies old given hand bodies (Ok stands)
  says_stands true with_it without = (gs, stand, with_it true refl refl)
  says_stands false with_it without = subst (Stand copies old given hand bodies) (without false refl refl) stand

  pub says_apart : (index : ℕ) (disk desk : Option Grant) → IsFirstApart index gs given → disk ≡ slice_get gs index → desk ≡ slice_get given index → (IsWithHand given hand gs → ⊥) → Says copies old given hand bodies (Err (no_back.Strange (strange.Differs index disk desk)))
  says_apart index disk desk apart here there neither = (gs, stand, apart, here, there, neither)

pub on_ok : {T E P : Type 0} (r : Result T E) → P → OnOk r P
on_ok (Ok x) p = p
on_ok (Err e) p = tt
