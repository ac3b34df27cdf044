-- What is kept of calls: how many there are, what they lead to, one more, and one undone.
use Rattle.std.proofs.Common.{◌≡◌, ◌<◌, ◌≤◌, ℕ, suc, ◌+◌, ◌-◌, List, [], ◌∷◌, ◌++◌, length, take, drop, get_or, reverse, refl, sym, ◌∙◌, ap, ap₂, subst, arith, length-append}
use Rattle.std.proofs.lemmas.List.{take_all, take_at, take_more, length-reverse, reverse-append}
use Rattle.std.proofs.Math.Seq.{drop-append_seam}
use Rattle.qc_disk.specs.Replay.{Act, synced, does, replayed, syncs, last_synced}
use Rattle.qc_disk.specs.Kept.{Kept, none, write, cut, sync, before, act_kept, first_of, acts_of, IsExact, kept_newest, kept, last_lost, lost_before, StepsBack}
use Rattle.qc_disk.specs.declared.records.Kind.{Kind}
use Rattle.qc_disk.specs.declared.records.Kind.TheVariants as kind
use Rattle.qc_disk.specs.declared.records.Change.{Change}
use Rattle.qc_disk.specs.Laws.{exact-replayed}

-- there are as many calls as kinds
newest_count : (kinds : List Kind) (changes : List Change) (lost : List ℕ) → length (kept_newest kinds changes lost) ≡ length kinds
newest_count [] changes lost = refl
newest_count (kind.Nothing ∷ kinds) changes lost = ap suc (newest_count kinds changes lost)
newest_count (kind.Wrote ∷ kinds) [] lost = ap suc (newest_count kinds [] lost)
newest_count (kind.Wrote ∷ kinds) (change ∷ changes) lost = ap suc (newest_count kinds changes (lost_before change lost))
newest_count (kind.Cut ∷ kinds) [] lost = ap suc (newest_count kinds [] lost)
newest_count (kind.Cut ∷ kinds) (change ∷ changes) lost = ap suc (newest_count kinds changes (lost_before change lost))
newest_count (kind.Synced ∷ kinds) changes lost = ap suc (newest_count kinds changes lost)

pub kept_count : (kinds : List Kind) (changes : List Change) (lost : List ℕ) → length (kept kinds changes lost) ≡ length kinds
kept_count kinds changes lost = newest_count (reverse kinds) (reverse changes) lost ∙ length-reverse kinds

-- and as many acts
pub acts_count : (calls : List Kept) (now : List ℕ) → length (acts_of calls now) ≡ length calls
acts_count [] now = refl
acts_count (call ∷ calls) now = omega (arith, length-append (acts_of calls (before call now)) (act_kept call now ∷ []), acts_count calls (before call now))

-- what is synced after one more act
last_synced-push : (at_sync now : List ℕ) (acts : List Act) (act : Act) → last_synced at_sync now (acts ++ act ∷ []) ≡ syncs act (replayed now acts) (last_synced at_sync now acts)
last_synced-push at_sync now [] act = refl
last_synced-push at_sync now (a ∷ acts) act = last_synced-push (syncs a now at_sync) (does a now) acts act

-- One call more is kept: what it did and what was there before it can be told.
pub record Adds (calls calls' : List Kept) (call : Kept) (act : Act) (now now' : List ℕ) : Type 0 where
  pub more : calls' ≡ call ∷ calls
  pub did : act_kept call now' ≡ act
  pub was : before call now' ≡ now

-- with one call more, the first bytes stay, its act is the last, and all is exact where it was
module _ (calls calls' : List Kept) (call : Kept) (act : Act) (now now' : List ℕ) (adds : Adds calls calls' call act now now') where
  pub adds-first : first_of calls' now' ≡ first_of calls now
  adds-first = ap (λ (l : List Kept). first_of l now') adds.more ∙ ap (first_of calls) adds.was

  pub adds-acts : acts_of calls' now' ≡ acts_of calls now ++ act ∷ []
  adds-acts = ap (λ (l : List Kept). acts_of l now') adds.more ∙ ap₂ (λ (was : List ℕ) did. acts_of calls was ++ did ∷ []) adds.was adds.did

  pub adds-exact : now' ≡ does act now → IsExact calls now → IsExact calls' now'
  adds-exact done exact = subst (λ (l : List Kept). IsExact l now') (sym adds.more) (ap₂ does adds.did adds.was ∙ sym done, subst (IsExact calls) (sym adds.was) exact)

-- what is kept, where the records are known
pub same_kept : (kinds kinds' : List Kind) (changes changes' : List Change) (lost lost' : List ℕ) → kinds' ≡ kinds → changes' ≡ changes → lost' ≡ lost → kept kinds' changes' lost' ≡ kept kinds changes lost
same_kept kinds kinds' changes changes' lost lost' k c l = ap₂ (λ (k : List Kind) (c : List Change). kept k c lost') k c ∙ ap (kept kinds changes) l

-- one write more
pub write_more : (kinds kinds' : List Kind) (changes changes' : List Change) (lost lost' gone : List ℕ) (change : Change) → kinds' ≡ kinds ++ kind.Wrote ∷ [] → changes' ≡ changes ++ change ∷ [] → lost' ≡ lost ++ gone → length gone ≡ change.over
    → kept kinds' changes' lost' ≡ write change gone ∷ kept kinds changes lost
write_more kinds kinds' changes changes' lost lost' gone change k c l size =
    let place : length (lost ++ gone) - change.over ≡ length lost = omega (arith, size, length-append lost gone) in
    same_kept (kinds ++ kind.Wrote ∷ []) kinds' (changes ++ change ∷ []) changes' (lost ++ gone) lost' k c l
    ∙ ap₂ (λ (k : List Kind) (c : List Change). kept_newest k c (lost ++ gone)) (reverse-append kinds (kind.Wrote ∷ [])) (reverse-append changes (change ∷ []))
    ∙ ap₂ (λ (last front : List ℕ). write change last ∷ kept_newest (reverse kinds) (reverse changes) front)
    (ap (λ n. drop n (lost ++ gone)) place ∙ drop-append_seam lost gone)
    (ap (λ n. take n (lost ++ gone)) place ∙ take_at lost gone (length lost) refl)

-- with a call undone, the others are as exact, began with the same bytes, and did the same before it
pub back-exact : (calls older : List Kept) (now was : List ℕ) → StepsBack calls now older was → IsExact calls now → IsExact older was
back-exact [] older now was back exact = subst (λ (l : List Kept). IsExact l was) (sym back.0) tt
back-exact (call ∷ calls) older now was back exact = subst (λ (l : List Kept). IsExact l was) (sym back.0) (subst (IsExact calls) (sym back.1) exact.1)

pub back-first : (calls older : List Kept) (now was : List ℕ) → StepsBack calls now older was → first_of older was ≡ first_of calls now
back-first [] older now was back = ap₂ first_of back.0 back.1
back-first (call ∷ calls) older now was back = ap₂ first_of back.0 back.1

pub back-acts : (calls older : List Kept) (now was : List ℕ) → StepsBack calls now older was → acts_of older was ≡ take (length older) (acts_of calls now)
back-acts [] older now was back = ap₂ acts_of back.0 back.1 ∙ sym (take_all (length older) [] (omega arith))
back-acts (call ∷ calls) older now was back =
    ap₂ acts_of back.0 back.1
    ∙ sym (take_at (acts_of calls (before call now)) (act_kept call now ∷ []) (length older) (acts_count calls (before call now) ∙ sym (ap length back.0)))

-- the last of some items is the first of them in reverse
reverse_last : {X : Type 0} (items : List X) (d : X) → 0 < length items → reverse items ≡ get_or items (length items - 1) d ∷ reverse (take (length items - 1) items)
reverse_last items d some =
    let n : ℕ = length items - 1 in
    ap reverse (sym (take_all (n + 1) items (omega arith)) ∙ take_more items n d (omega (arith, some)))
    ∙ reverse-append (take n items) (get_or items n d ∷ [])

-- what is synced stays, whatever call but a sync is undone
unsynced-back : (at_sync first : List ℕ) (newest : Kind) (kinds : List Kind) (changes : List Change) (lost : List ℕ) (older : List Kept) (now was : List ℕ) → (newest ≡ kind.Synced → ⊥)
    → StepsBack (kept_newest (newest ∷ kinds) changes lost) now older was → last_synced at_sync first (acts_of older was) ≡ last_synced at_sync first (acts_of (kept_newest (newest ∷ kinds) changes lost) now)
unsynced-back at_sync first newest kinds changes lost older now was other = by newest changes other
  where
    one : (call : Kept) (calls : List Kept) → ((b c : List ℕ) → syncs (act_kept call now) b c ≡ c) → StepsBack (call ∷ calls) now older was → last_synced at_sync first (acts_of older was) ≡ last_synced at_sync first (acts_of (call ∷ calls) now)
    one call calls stays back =
        ap (last_synced at_sync first) (ap₂ acts_of back.0 back.1)
        ∙ sym (last_synced-push at_sync first (acts_of calls (before call now)) (act_kept call now) ∙ stays (replayed first (acts_of calls (before call now))) (last_synced at_sync first (acts_of calls (before call now))))

    by : (newest : Kind) (changes : List Change) → (newest ≡ kind.Synced → ⊥) → StepsBack (kept_newest (newest ∷ kinds) changes lost) now older was → last_synced at_sync first (acts_of older was) ≡ last_synced at_sync first (acts_of (kept_newest (newest ∷ kinds) changes lost) now)
    by kind.Nothing changes other back = one none (kept_newest kinds changes lost) (λ b c. refl) back
    by kind.Wrote [] other back = one none (kept_newest kinds [] lost) (λ b c. refl) back
    by kind.Wrote (change ∷ changes) other back = one (write change (last_lost change lost)) (kept_newest kinds changes (lost_before change lost)) (λ b c. refl) back
    by kind.Cut [] other back = one none (kept_newest kinds [] lost) (λ b c. refl) back
    by kind.Cut (change ∷ changes) other back = one (cut change (last_lost change lost)) (kept_newest kinds changes (lost_before change lost)) (λ b c. refl) back
    by kind.Synced changes other back = absurd (other refl)

-- after a sync what is there is synced
just-synced : (at_sync now : List ℕ) (calls : List Kept) → IsExact (sync ∷ calls) now → last_synced at_sync (first_of (sync ∷ calls) now) (acts_of (sync ∷ calls) now) ≡ now
just-synced at_sync now calls exact = last_synced-push at_sync (first_of calls now) (acts_of calls now) synced ∙ exact-replayed calls now exact.1

-- what is synced, by the last of the records: another call, or a sync
module _ (at_sync now : List ℕ) (kinds : List Kind) (changes : List Change) (lost : List ℕ) where
  abbrev last : Kind
  last = get_or kinds (length kinds - 1) kind.Nothing

  abbrev earlier : List Kind
  earlier = reverse (take (length kinds - 1) kinds)

  pub ends_unsynced : (first : List ℕ) (older : List Kept) (was : List ℕ) → 1 ≤ length kinds → (last ≡ kind.Synced → ⊥) → StepsBack (kept kinds changes lost) now older was
      → last_synced at_sync first (acts_of older was) ≡ last_synced at_sync first (acts_of (kept kinds changes lost) now)
  ends_unsynced first older was some other =
      subst (λ (k : List Kind). StepsBack (kept_newest k (reverse changes) lost) now older was → last_synced at_sync first (acts_of older was) ≡ last_synced at_sync first (acts_of (kept_newest k (reverse changes) lost) now))
      (sym (reverse_last kinds kind.Nothing some))
      (unsynced-back at_sync first last earlier (reverse changes) lost older now was other)

  pub ends_synced : 1 ≤ length kinds → last ≡ kind.Synced → IsExact (kept kinds changes lost) now → last_synced at_sync (first_of (kept kinds changes lost) now) (acts_of (kept kinds changes lost) now) ≡ now
  ends_synced some is =
      subst (λ (k : List Kind). IsExact (kept_newest k (reverse changes) lost) now → last_synced at_sync (first_of (kept_newest k (reverse changes) lost) now) (acts_of (kept_newest k (reverse changes) lost) now) ≡ now)
      (sym (reverse_last kinds kind.Nothing some ∙ ap (λ k. k ∷ earlier) is))
      (just-synced at_sync now (kept_newest earlier (reverse changes) lost))

-- and with no call left, the first bytes are
pub none_left : (first now : List ℕ) (kinds : List Kind) (changes : List Change) (lost : List ℕ) → length kinds < 1 → first_of (kept kinds changes lost) now ≡ first → last_synced first first (acts_of (kept kinds changes lost) now) ≡ now
none_left first now [] changes lost few is = sym is
none_left first now (k ∷ kinds) changes lost few is = absurd (omega (arith, few))
