-- Records that are written one behind another.
use Rattle.std.proofs.Common.{◌≡◌, ◌<◌, ◌⊎◌, inl, inr, ℕ, ◌+◌, arith, List, [], ◌∷◌, ◌++◌, length, refl, sym, ap, ◌∙◌, subst, append-nil, append_assoc}
use mathlib.Core.Bool.{true≢false}
use Rattle.std.proofs.lemmas.Bool.{lt-ltb}
use Rattle.std.proofs.Math.Dec.{eqb-suc-zero}
use Rattle.std.specs.Prelude.{◌==◌, true, Option, None, Result, Ok, Err, OnOk, Vec}
use Rattle.std.specs.Result.{IsErrAnd}
use Rattle.std.specs.declared.alloc.Global.{Global}
use Rattle.qc_disk.specs.Disk.{DiskView, LeavesOnly}
use Rattle.qc_disk.specs.declared.disk.Disk.{Ghosts}
use Rattle.qc_journal.specs.Image.{row, EndsAt, HasRecords, bodies_of}
use Rattle.qc_journal.specs.Journal.{IsUp, Keeps, ImageStands, disk_of, in_hand, place_of}
use Rattle.qc_journal.specs.State.{IsUpState, hand_of}
use Rattle.qc_journal.specs.declared.journal.Journal.{Journal}
use Rattle.qc_journal.specs.declared.journal.State.{State}
use Rattle.qc_journal.specs.declared.journal.State.TheVariants.{Up, Down}
use Rattle.qc_journal.proofs.Moments.{weakened}
use Rattle.qc_codec.specs.Bodies as body
use Rattle.qc_codec.specs.Fields.{word}
use Rattle.qc_codec.specs.declared.record.LedgerRecord.TheVariants as ledger_record
use Rattle.qc_ledger.specs.Image.{LAST_EPOCH, IsFull, made_where_none}
use Rattle.qc_ledger.specs.Mounted.{HasSome}

-- WHAT AN IMAGE HAS

pub some_of_one : (bodies : List (List ℕ)) (next image : List ℕ) → HasRecords bodies image ⊎ HasRecords (bodies ++ next ∷ []) image → HasSome bodies (next ∷ []) image
some_of_one bodies next image (inl these) = record { first = []; rest = next ∷ []; split = refl; has = subst (λ (b : List (List ℕ)). HasRecords b image) (sym (append-nil bodies)) these }
some_of_one bodies next image (inr both) = record { first = next ∷ []; rest = []; split = refl; has = both }

pub some_of_none : (bodies more : List (List ℕ)) (image : List ℕ) → HasRecords bodies image → HasSome bodies more image
some_of_none bodies more image these = record { first = []; rest = more; split = refl; has = subst (λ (b : List (List ℕ)). HasRecords b image) (sym (append-nil bodies)) these }

module _ (bodies xs ys : List (List ℕ)) (image : List ℕ) where
  pub some_front : HasSome bodies xs image → HasSome bodies (xs ++ ys) image
  some_front h = record { first = h.first; rest = h.rest ++ ys; split = ap (λ (l : List (List ℕ)). l ++ ys) h.split ∙ append_assoc h.first h.rest ys; has = h.has }

  pub some_back : HasSome (bodies ++ xs) ys image → HasSome bodies (xs ++ ys) image
  some_back h = record {
    first = xs ++ h.first;
    rest = h.rest;
    split = ap (λ (l : List (List ℕ)). xs ++ l) h.split ∙ sym (append_assoc xs h.first h.rest);
    has = subst (λ (b : List (List ℕ)). HasRecords b image) (append_assoc bodies xs h.first) h.has;
  }

-- WANT OF ROOM

module _ (limit : ℕ) where
  pub full_front : (bodies xs ys : List (List ℕ)) (place : ℕ) → IsFull limit bodies xs place → IsFull limit bodies (xs ++ ys) place
  full_front bodies [] ys place full = absurd full
  full_front bodies (x ∷ xs) ys place (inl here) = inl here
  full_front bodies (x ∷ xs) ys place (inr later) = inr (later.0, full_front (bodies ++ x ∷ []) xs ys place later.1)

  pub full_back : (bodies xs ys : List (List ℕ)) (place : ℕ) → ((p : ℕ) → IsFull limit bodies xs p → ⊥) → IsFull limit (bodies ++ xs) ys place → IsFull limit bodies (xs ++ ys) place
  full_back bodies [] ys place room full = subst (λ (b : List (List ℕ)). IsFull limit b ys place) (append-nil bodies) full
  full_back bodies (x ∷ xs) ys place room full = inr (
    (λ long. room (length (row bodies)) (inl (refl, long))),
    full_back (bodies ++ x ∷ []) xs ys place
        (λ p later. room p (inr ((λ long. room (length (row bodies)) (inl (refl, long))), later)))
        (subst (λ (b : List (List ℕ)). IsFull limit b ys place) (sym (append_assoc bodies (x ∷ []) xs)) full),
  )

  pub room_both : (bodies xs ys : List (List ℕ)) → ((p : ℕ) → IsFull limit bodies xs p → ⊥) → ((p : ℕ) → IsFull limit (bodies ++ xs) ys p → ⊥) → (place : ℕ) → IsFull limit bodies (xs ++ ys) place → ⊥
  room_both bodies [] ys one two place full = two place (subst (λ (b : List (List ℕ)). IsFull limit b ys place) (sym (append-nil bodies)) full)
  room_both bodies (x ∷ xs) ys one two place (inl here) = one place (inl here)
  room_both bodies (x ∷ xs) ys one two place (inr later) = room_both (bodies ++ x ∷ []) xs ys
      (λ p full. one p (inr (later.0, full)))
      (λ p full. two p (subst (λ (b : List (List ℕ)). IsFull limit b ys p) (append_assoc bodies (x ∷ []) xs) full)) place later.1

-- WHAT IS WRITTEN WHERE THERE IS NOTHING

pub none_made : (made : List ℕ) (bodies : List (Vec ℕ Global)) → (length bodies == 0) ≡ true → made_where_none made (bodies_of bodies) ≡ made ∷ []
none_made made [] none = refl
none_made made (b ∷ bodies) none = absurd (true≢false (sym none ∙ eqb-suc-zero (length bodies)))

-- THE DISK

-- one that is up has nothing in hand
pub up_hand : (state : State) → IsUpState state → hand_of state ≡ None
up_hand (Up missing) up = refl
up_hand (Down held) up = absurd up

ends_here : (place : ℕ) (bodies : List (List ℕ)) (hand : Option (List ℕ)) (image : List ℕ) → hand ≡ None → ImageStands place bodies hand image → EndsAt place bodies image
ends_here place bodies hand image none stands = subst (λ (h : Option (List ℕ)). ImageStands place bodies h image) none stands

module _ {D : Type 0} {g : Ghosts D} where
  -- each image of a journal that is up has the records that it keeps
  pub kept_ends : (journal : Journal D g) (bodies : List (List ℕ)) (image : List ℕ) → IsUp journal → Keeps journal bodies → (g.view (disk_of journal)).may_leave image → EndsAt (place_of journal) bodies image
  kept_ends journal bodies image up k left = ends_here journal.place bodies (in_hand journal) image (up_hand journal.state up) (k.each image left)

  pub kept_has : (journal : Journal D g) (bodies : List (List ℕ)) (image : List ℕ) → IsUp journal → Keeps journal bodies → (g.view (disk_of journal)).may_leave image → HasRecords bodies image
  kept_has journal bodies image up k left = inr (place_of journal, kept_ends journal bodies image up k left)

pub one_written : {D : Type 0} (view : D → DiskView) (old new : D) (bodies : List (List ℕ)) (spelled next : List ℕ) → spelled ≡ next
    → LeavesOnly view old new (λ image. HasRecords bodies image ⊎ HasRecords (bodies ++ spelled ∷ []) image) → LeavesOnly view old new (HasSome bodies (next ∷ []))
one_written view old new bodies spelled next is run = weakened view old new _ (HasSome bodies (next ∷ [])) run
    (λ image has. some_of_one bodies next image (subst (λ (b : List ℕ). HasRecords bodies image ⊎ HasRecords (bodies ++ b ∷ []) image) is has))

-- ANSWERS

pub on_ok : {T E P Q : Type 0} (r : Result T E) → (P → Q) → OnOk r P → OnOk r Q
on_ok (Ok x) f p = f p
on_ok (Err e) f p = tt

pub same_err : {T E : Type 0} (r : Result T E) (e f : E) → IsErrAnd r (λ y. y ≡ e) → r ≡ Err f → e ≡ f
same_err (Ok x) e f and is = absurd and
same_err (Err y) e f and is = let one : y ≡ f = cc in sym and ∙ one

-- WHAT A MOUNTING WRITES

pub epoch_fits : (n : ℕ) → n < LAST_EPOCH → body.ledger.fits (ledger_record.Epoch (n + 1))
unfolding body.ledger word
epoch_fits n below = (omega (arith, below), lt-ltb 0 (n + 1) (omega arith))
