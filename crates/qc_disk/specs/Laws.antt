-- A record of calls has the laws of a disk: what is done is among what a crash may leave of it.
use Rattle.std.specs.Prelude.{◌<◌, ◌≡◌, ◌≤◌, ◌↔◌, ℕ, ◌+◌, ◌-◌, min, List, [], ◌∷◌, ◌++◌, length, take, drop, refl, get_or, Bool, true, false}
use Rattle.std.proofs.Common.{sym, ◌∙◌, ap, subst, arith, length-append, length-take, length-drop}
use Rattle.std.proofs.lemmas.List.{take_all, get_or_append_left, get_or-append_right, get_or-take, get_or-drop}
use Rattle.qc_disk.specs.Disk.{written, Torn, Cut}
use Rattle.qc_disk.specs.Replay.{Act, nothing, wrote, cut_to, synced, does, leaves, replayed, left_after, images, images_at, syncs, last_synced, image_after}
use Rattle.qc_disk.specs.Kept.{Kept, before, act_kept, first_of, acts_of, IsExact}

pub torn_same : (at n : ℕ) (old : List ℕ) → Torn at n old old
torn_same at n old = record { before = λ i _ _. refl; after = λ i _ _. refl; no_shorter = omega arith; no_longer = omega arith }

pub cut_same : (to : ℕ) (old : List ℕ) → Cut to old old
cut_same to old = record { before = λ i _ _. refl; no_shorter = omega arith; no_longer = omega arith }

-- how long the bytes are with others written at a place
pub length-written : (at : ℕ) (bytes old : List ℕ) → length (written at bytes old) ≡ min at (length old) + length bytes + (length old - (at + length bytes))
length-written at bytes old =
    let front = length-take at old in
    let all = length-append (take at old ++ bytes) (drop (at + length bytes) old) in
    let most = length-append (take at old) bytes in
    let back = length-drop (at + length bytes) old in
    omega (arith, front, all, most, back)

written-before : (at : ℕ) (bytes old : List ℕ) (i : ℕ) → i < at → i < length old → get_or (written at bytes old) i 0 ≡ get_or old i 0
written-before at bytes old i below within =
    let front = length-take at old in
    let most = length-append (take at old) bytes in
    get_or_append_left (take at old ++ bytes) (drop (at + length bytes) old) 0 i (omega (arith, front, most))
    ∙ get_or_append_left (take at old) bytes 0 i (omega (arith, front))
    ∙ get_or-take at old i 0 below

written-after : (at : ℕ) (bytes old : List ℕ) (i : ℕ) → at + length bytes ≤ i → i < length old → get_or (written at bytes old) i 0 ≡ get_or old i 0
written-after at bytes old i above within =
    let front = length-take at old in
    let most = length-append (take at old) bytes in
    let n = at + length bytes in
    let place : n + (i - n) ≡ i = omega arith in
    get_or-append_right (take at old ++ bytes) (drop n old) n i 0 (omega (arith, front, most)) above
    ∙ get_or-drop n old (i - n) 0
    ∙ ap (λ k. get_or old k 0) place

pub torn-written : (at : ℕ) (bytes old : List ℕ) → Torn at (length bytes) old (written at bytes old)
torn-written at bytes old =
    let size = length-written at bytes old in
    record {
      before = λ i below within. written-before at bytes old i below within;
      after = λ i above within. written-after at bytes old i above within;
      no_shorter = omega (arith, size);
      no_longer = omega (arith, size);
    }

pub cut-taken : (to : ℕ) (old : List ℕ) → Cut to old (take to old)
cut-taken to old =
    let size = length-take to old in
    record {
      before = λ i below within. get_or-take to old i 0 below;
      no_shorter = omega (arith, size);
      no_longer = omega (arith, size);
    }

-- the content after one more act
replayed-push : (now : List ℕ) (acts : List Act) (act : Act) → replayed now (acts ++ act ∷ []) ≡ does act (replayed now acts)
replayed-push now [] act = refl
replayed-push now (a ∷ acts) act = replayed-push (does a now) acts act

-- what the calls did, done to what was there before them, makes what is there
pub exact-replayed : (calls : List Kept) (now : List ℕ) → IsExact calls now → replayed (first_of calls now) (acts_of calls now) ≡ now
exact-replayed [] now exact = refl
exact-replayed (call ∷ calls) now exact =
    let was = before call now in
    replayed-push (first_of calls was) (acts_of calls was) (act_kept call now) ∙ ap (does (act_kept call now)) (exact-replayed calls was exact.1) ∙ exact.0

-- the content is an image still after one act
image-act : (act : Act) (now : List ℕ) (was : List ℕ → Type 0) → was now → leaves act now was (does act now)
image-act nothing now was here = here
image-act (wrote at bytes) now was here = (now, here, torn-written at bytes now)
image-act (cut_to to) now was here = (now, here, cut-taken to now)
image-act synced now was here = refl

image-acts : (now : List ℕ) (was : List ℕ → Type 0) (acts : List Act) → was now → left_after now was acts (replayed now acts)
image-acts now was [] here = here
image-acts now was (act ∷ acts) here = image-acts (does act now) (leaves act now was) acts (image-act act now was here)

-- the content is an image
pub image_now : (first : List ℕ) (acts : List Act) (bytes : List ℕ) → bytes ≡ replayed first acts → images first acts bytes
image_now first acts bytes is = subst (images first acts) (sym is) (image-acts first (λ d. d ≡ first) acts refl)

-- what is synced stays an image
synced-act : (act : Act) (at_sync now : List ℕ) (was : List ℕ → Type 0) → was at_sync → leaves act now was (syncs act now at_sync)
synced-act nothing at_sync now was here = here
synced-act (wrote at bytes) at_sync now was here = (at_sync, here, torn_same at (length bytes) at_sync)
synced-act (cut_to to) at_sync now was here = (at_sync, here, cut_same to at_sync)
synced-act synced at_sync now was here = refl

synced-acts : (at_sync now : List ℕ) (was : List ℕ → Type 0) (acts : List Act) → was at_sync → left_after now was acts (last_synced at_sync now acts)
synced-acts at_sync now was [] here = here
synced-acts at_sync now was (act ∷ acts) here = synced-acts (syncs act now at_sync) (does act now) (leaves act now was) acts (synced-act act at_sync now was here)

-- the content and what is synced are images
pub image_left : (first : List ℕ) (acts : List Act) (done : Bool) → images first acts (image_after first acts done)
image_left first acts true = image-acts first (λ d. d ≡ first) acts refl
image_left first acts false = synced-acts first first (λ d. d ≡ first) acts refl

-- after all acts it is what a crash may leave
pub at_end : (first : List ℕ) (acts : List Act) (c : List ℕ) → images_at first acts (length acts) c ↔ images first acts c
at_end first acts c = by_all (take_all (length acts) acts (omega arith))
  where
    by_all : take (length acts) acts ≡ acts → images_at first acts (length acts) c ↔ images first acts c
    by_all is = (λ left. subst (λ (l : List Act). images first l c) is left, λ left. subst (λ (l : List Act). images first l c) (sym is) left)
