-- A request that stands in a legal history was allowed when it was made, so it fits the table.
use Rattle.std.proofs.Common.{◌≡◌, ℕ, [], ◌∷◌, refl, subst, inl, inr}
use Rattle.std.specs.Prelude.{Option, None, Some, MatchOption}
use Rattle.qc_names.specs.Name as name
use Rattle.qc_event.specs.declared.event.Ask.{Ask}
use Rattle.qc_event.specs.declared.event.Kind.TheVariants as kind
use Rattle.qc_event.specs.Base.{Setting, IsProper}
use Rattle.qc_event.specs.History.{Past, Name, Asked, Begun, start, asked, ask_in}
use Rattle.qc_event.specs.Legal.{Legal, MayHappen}
use Rattle.qc_event.specs.Manager.{record_of, AtStage}
use Rattle.qc_event.specs.Requests.{IsNextAsk, MayAsk}
use Rattle.qc_event.specs.Standing.{IsManager}
use Rattle.qc_event.proofs.AskedAccess.{asking}
use Rattle.qc_event.proofs.OneEntry.{first_is}
use Rattle.qc_event.proofs.KindFits.{KindFits, kind_fits, record_fits}
use Rattle.qc_event.proofs.Starting.{IsManaged, access_managed}
use Rattle.qc_event.proofs.AsksFit.{AskFits, ask_fits, first_sized}

-- the moment at which an access asked
pub record WasAsked (setting : Setting) (a : Asked) : Type 0 where
  pub before : Past
  pub legal : Legal setting before
  pub may : MayAsk setting before a.seat a.ask

pub was_asked : (setting : Setting) (past : Past) (n : Name) (a : Asked) → Legal setting past → asked past n ≡ Some a → WasAsked setting a
was_asked setting [] n a legal is = absurd cc
was_asked setting (e ∷ past) n a legal is = elim (first_is (asked past n) (ask_in n e.seat e.event) a is) [
  | inl old ↦ was_asked setting past n a legal.0 old
  | inr new ↦
      let at = asking n e.seat e.event a new.1 in
      record { before = past; legal = legal.0; may = subst (λ seat. MayAsk setting past seat a.ask) at.same_seat (subst (MayHappen setting past e.seat) at.asks legal.1) }
]

-- who asked was started as an access, under a manager
pub managed : (setting : Setting) (past : Past) (seat : ℕ) (ask : Ask) → Legal setting past → MayAsk setting past seat ask → IsManaged past ask.access
managed setting past seat ask legal may = by_start (start past ask.access) refl may.started
  where
    by_start : (o : Option Begun) → start past ask.access ≡ o → MatchOption o ⊥ (λ b. (b.seat ≡ seat) × (b.kind ≡ kind.Access)) → IsManaged past ask.access
    by_start None is started = absurd started
    by_start (Some b) is started = access_managed setting past ask.access b legal is started.1

-- a request goes to a copy that there is, for a record of the table, and puts a configuration for as many copies
pub asked_fits : (setting : Setting) (past : Past) (n : Name) (a : Asked) → IsProper setting → Legal setting past → asked past n ≡ Some a → AskFits setting a.ask
asked_fits setting past n a proper legal is =
    let was = was_asked setting past n a legal is in
    by_manager was.before was.legal (start was.before (name.front a.ask.access)) refl was.may.of_stage (managed setting was.before a.seat a.ask was.legal was.may)
  where
    by_manager : (before : Past) → Legal setting before → (o : Option Begun) → start before (name.front a.ask.access) ≡ o
        → MatchOption o ⊥ (λ m. AtStage setting before (name.front a.ask.access) m.kind (IsNextAsk before (name.front a.ask.access) m.kind a.ask)) → MatchOption o ⊥ (λ m. IsManager m.kind) → AskFits setting a.ask
    by_manager before legal None is at manages = absurd at
    by_manager before legal (Some m) is at manages =
        let kind : KindFits setting m.kind = kind_fits setting before (name.front a.ask.access) m legal is in
        ask_fits setting before (name.front a.ask.access) m.kind a.ask legal manages kind
        (first_sized setting proper (record_of m.kind) (record_fits setting m.kind manages kind)) at
