-- What a crash may leave after a record of calls is what it may leave between two syncs.
use Rattle.std.proofs.Common.{◌≡◌, ◌<◌, ⊎_elim, ℕ, List, [], ◌∷◌, length, refl, sym, ◌∙◌, subst, arith}
use Rattle.qc_disk.specs.Disk.{Torn, Cut}
use Rattle.qc_disk.specs.Replay.{Act, nothing, wrote, cut_to, synced, does, leaves, left_after, images}
use Rattle.qc_disk.specs.Between.{Extent, just_synced, extended, extended_by, extent, LeftBetween}

fresh : (now : List ℕ) → LeftBetween (just_synced now) now
fresh now = record { spared = λ i _ within. (within, refl); no_shorter = omega arith; no_longer = omega arith }

after-write : (at : ℕ) (bytes now : List ℕ) (e : Extent) (d c : List ℕ) → LeftBetween e d → Torn at (length bytes) d c → LeftBetween (extended (wrote at bytes) now e) c
after-write at bytes now e d c before torn = record {
  spared = λ i spared within.
      let was = before.spared i spared.1 within in
      let longer : i < length c = omega (arith, was.0, torn.no_shorter) in
      (longer, ⊎_elim (λ front. torn.before i front was.0) (λ back. torn.after i back was.0) spared.0 ∙ was.1);
  no_shorter = omega (arith, before.no_shorter, torn.no_shorter);
  no_longer = omega (arith, before.no_longer, torn.no_longer);
}

after-cut : (to : ℕ) (now : List ℕ) (e : Extent) (d c : List ℕ) → LeftBetween e d → Cut to d c → LeftBetween (extended (cut_to to) now e) c
after-cut to now e d c before cut = record {
  spared = λ i spared within.
      let was = before.spared i spared.1 within in
      let there : i < length c = omega (arith, was.0, spared.0, cut.no_shorter) in
      (there, cut.before i spared.0 there ∙ was.1);
  no_shorter = omega (arith, before.no_shorter, cut.no_shorter);
  no_longer = omega (arith, before.no_longer, cut.no_longer);
}

after-act : (act : Act) (now : List ℕ) (was : List ℕ → Type 0) (e : Extent) → ((d : List ℕ) → was d → LeftBetween e d) → (c : List ℕ) → leaves act now was c → LeftBetween (extended act now e) c
after-act nothing now was e before c left = before c left
after-act (wrote at bytes) now was e before c left = after-write at bytes now e left.0 c (before left.0 left.1) left.2
after-act (cut_to to) now was e before c left = after-cut to now e left.0 c (before left.0 left.1) left.2
after-act synced now was e before c left = subst (LeftBetween (just_synced now)) (sym left) (fresh now)

after-acts : (acts : List Act) (now : List ℕ) (was : List ℕ → Type 0) (e : Extent) → ((d : List ℕ) → was d → LeftBetween e d) → (c : List ℕ) → left_after now was acts c → LeftBetween (extended_by acts now e) c
after-acts [] now was e before c left = before c left
after-acts (act ∷ acts) now was e before c left = after-acts acts (does act now) (leaves act now was) (extended act now e) (after-act act now was e before) c left

pub left-between : (first : List ℕ) (acts : List Act) (c : List ℕ) → images first acts c → LeftBetween (extent first acts) c
left-between first acts c left = after-acts acts first (λ d. d ≡ first) (just_synced first) (λ d is. subst (LeftBetween (just_synced first)) (sym is) (fresh first)) c left
