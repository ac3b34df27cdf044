-- What is seldom tells the event that it was.
use Rattle.std.proofs.Common.{◌≡◌, ℕ, zero, suc, ◌<◌, List, [], ◌∷◌, length, refl, sym, ap, ◌∙◌}
use Rattle.std.specs.Prelude.{Option, None, Some, slice_get, slice_index_or}
use Rattle.qc_config.specs.declared.tuple.Op.{Op}
use Rattle.qc_config.specs.declared.tuple.Op.TheVariants as op
use Rattle.qc_event.specs.declared.event.Answer.TheVariants as answer
use Rattle.qc_event.specs.declared.event.Cause.{Cause}
use Rattle.qc_event.specs.declared.event.Cause.TheVariants as cause
use Rattle.qc_event.specs.declared.event.Event.{Event}
use Rattle.qc_event.specs.declared.event.Event.TheVariants as event
use Rattle.qc_event.specs.declared.event.How.TheVariants as how
use Rattle.qc_event.specs.declared.event.Kind.TheVariants as kind
use Rattle.qc_event.specs.declared.event.Refusal.TheVariants as refusal
use Rattle.qc_event.specs.History.{Name}
use Rattle.qc_trail.specs.declared.rares.Rare.{Rare}
use Rattle.qc_trail.specs.Rare.{abort_in, rare_asked, rare_at, rare_in, rare_told}
use Rattle.qc_trail.specs.Told.{StandsAt}

told_abort : (n : Name) (c : Cause) → rare_told (abort_in n c) ≡ event.End n (how.Abort c)
told_abort n (cause.Asked by) = refl
told_abort n (cause.Conflict copy holder) = refl
told_abort n (cause.NoQuorum lack) = refl
told_abort n cause.Last = refl
told_abort n (cause.Orphan ancestor) = refl
told_abort n cause.Killed = refl
told_abort n (cause.Child child) = refl
told_abort n cause.Missed = refl

asked : (a : Name) (copy rec : ℕ) (o : Op) (r : Rare) → rare_asked a copy rec o ≡ Some r → rare_told r ≡ event.Ask (record { access = a; copy = copy; rec = rec; op = o })
asked a copy rec op.Get r is = absurd cc
asked a copy rec (op.PutData version value) r is = absurd cc
asked a copy rec (op.PutConfig generation config) r is = cc

pub rare_tells : (e : Event) (r : Rare) → rare_in e ≡ Some r → rare_told r ≡ e
rare_tells (event.Start n (kind.Reconf rec config)) r is = cc
rare_tells (event.Start n (kind.User session body)) r is = absurd cc
rare_tells (event.Start n (kind.Read rec)) r is = absurd cc
rare_tells (event.Start n (kind.Write rec value)) r is = absurd cc
rare_tells (event.Start n kind.Access) r is = absurd cc
rare_tells (event.Ask ask) r is = asked ask.access ask.copy ask.rec ask.op r is
rare_tells (event.Gone a why) r is = cc
rare_tells (event.Granted copy grant) r is = absurd cc
rare_tells (event.Refused a copy (refusal.Blocked holder)) r is = cc
rare_tells (event.Refused a copy (refusal.Dead ancestor)) r is = cc
rare_tells (event.Unable n why) r is = cc
rare_tells (event.Mark by session) r is = cc
rare_tells (event.Ready top) r is = absurd cc
rare_tells (event.End n (how.Abort c)) r is = let same : abort_in n c ≡ r = cc in ap rare_told (sym same) ∙ told_abort n c
rare_tells (event.End n (how.Commit (answer.Generation generation))) r is = cc
rare_tells (event.End n (how.Commit answer.Nothing)) r is = absurd cc
rare_tells (event.End n (how.Commit (answer.Value value))) r is = absurd cc
rare_tells (event.End n (how.Commit (answer.Reply tuple))) r is = absurd cc

got : {A : Type 0} (xs : List A) (at : ℕ) (x d : A) → slice_get xs at ≡ Some x → x ≡ slice_index_or xs at d
got [] at x d is = absurd cc
got (y ∷ xs) zero x d is = cc
got (y ∷ xs) (suc at) x d is = got xs at x d is

-- what stands at a place that was told
pub record Stands (rares : List Rare) (m : Option Rare) (at : ℕ) : Type 0 where
  pub within : at < length rares
  pub is : m ≡ Some (rare_at rares at)

pub stands : (rares : List Rare) (m : Option Rare) (at : ℕ) → StandsAt rares m (Some at) → Stands rares m at
stands rares None at h = absurd h
stands rares (Some x) at h = record { within = h.0; is = ap (λ r. Some r) (got rares at x _ h.1) }
