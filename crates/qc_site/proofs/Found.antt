-- What reading a journal back finds.
use Rattle.std.proofs.Common.{◌≡◌, inl, inr, ℕ, List, [], ◌∷◌, ◌++◌, refl, sym, subst}
use Rattle.std.specs.Prelude.{Bool, Option, None, Some, IfSome, IfOk, Result, Ok, Err}
use Rattle.qc_event.specs.declared.event.Grant.{Grant}
use Rattle.qc_site.specs.declared.back.BackNo.{BackNo}
use Rattle.qc_disk.specs.Disk.{IsImage}
use Rattle.qc_disk.specs.declared.disk.Disk.{Ghosts}
use Rattle.qc_journal.specs.Image.{HasRecords, IsBroken}
use Rattle.qc_journal.specs.Journal.{in_hand, IsUp, Keeps, ImageStands}
use Rattle.qc_journal.specs.declared.journal.Journal.{Journal}
use Rattle.qc_journal.proofs.Readings.{records-same, records_not_broken}
use Rattle.qc_ledger.proofs.Writing.{up_hand}
use Rattle.qc_site.specs.Back.{WereFound, IsLeft, Says}

-- one that is up has nothing in hand
pub nothing_in_hand : {D : Type 0} {g : Ghosts D} (journal : Journal D g) → IsUp journal → in_hand journal ≡ None
nothing_in_hand journal up = up_hand journal.state up

pub found_by : (place : ℕ) (bodies found : List (List ℕ)) (hand : Option (List ℕ)) (image : List ℕ) → ImageStands place bodies hand image → HasRecords found image → WereFound bodies hand found
found_by place bodies found None image stands has = inl (records-same image bodies found (inr (place, stands)) has)
found_by place bodies found (Some body) image (inl stands) has = inl (records-same image bodies found (inr (place, stands)) has)
found_by place bodies found (Some body) image (inr stands) has = inr (records-same image (bodies ++ body ∷ []) found (inr (_, stands)) has)

module _ {D : Type 0} {g : Ghosts D} (old : Journal D g) (bodies : List (List ℕ)) (k : Keeps old bodies) (law : IsImage (g.view old.disk).content (g.view old.disk).may_leave) where
  -- the bytes that are told stand as each image does
  pub told_stands : ImageStands old.place bodies (in_hand old) k.bytes
  told_stands = k.each k.bytes (subst (λ o. IsImage o (g.view old.disk).may_leave) k.told law)

  abbrev pub left_found : (new : Journal D g) (found : List (List ℕ)) → IfSome (g.view old.disk).content (HasRecords found) → IsUp new → Keeps new found → IsLeft old new bodies
  left_found new found has up keeps = record {
    found = found;
    is = found_by old.place bodies found (in_hand old) k.bytes told_stands (subst (λ o. IfSome o (HasRecords found)) k.told has);
    keeps = keeps;
    hand = inl (nothing_in_hand new up);
  }

stands_records : (place : ℕ) (bodies : List (List ℕ)) (hand : Option (List ℕ)) (image : List ℕ) → ImageStands place bodies hand image → (records : List (List ℕ)) × HasRecords records image
stands_records place bodies None image stands = (bodies, inr (place, stands))
stands_records place bodies (Some body) image (inl stands) = (bodies, inr (place, stands))
stands_records place bodies (Some body) image (inr stands) = (bodies ++ body ∷ [], inr (_, stands))

-- the bytes that are told are not broken
pub never_broken : {D : Type 0} {g : Ghosts D} (old : Journal D g) (bodies : List (List ℕ)) (k : Keeps old bodies) (law : IsImage (g.view old.disk).content (g.view old.disk).may_leave) (place : ℕ) → IsBroken place k.bytes → ⊥
never_broken old bodies k law place broken =
    let has = stands_records old.place bodies (in_hand old) k.bytes (told_stands old bodies k law) in
    records_not_broken k.bytes has.0 place has.1 broken

-- where nothing was read, all is as it was
pub left_same : {D : Type 0} {g : Ghosts D} (old new : Journal D g) (bodies : List (List ℕ)) → Keeps new bodies → in_hand new ≡ in_hand old → IsLeft old new bodies
left_same old new bodies keeps hand = record { found = bodies; is = inl refl; keeps = keeps; hand = inr (hand, refl) }

-- what was found answers
pub kept_answer : {D : Type 0} {g : Ghosts D} (copies old : ℕ) (given : List Grant) (hand : Option Grant) (before now : Journal D g) (found : List (List ℕ)) (r : Result Bool BackNo)
    → Says copies old given hand found r → (left : (bodies : List (List ℕ)) → Keeps before bodies → IsLeft before now bodies) → ((bodies : List (List ℕ)) (k : Keeps before bodies) → (left bodies k).found ≡ found)
    → IfOk r (λ stands. (bodies : List (List ℕ)) → Keeps before bodies → (l : IsLeft before now bodies) × Says copies old given hand l.found (Ok stands))
kept_answer copies old given hand before now found (Err e) says left same = tt
kept_answer copies old given hand before now found (Ok stands) says left same = λ bodies k. (left bodies k, subst (λ f. Says copies old given hand f (Ok stands)) (sym (same bodies k)) says)
