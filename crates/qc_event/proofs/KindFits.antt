-- What a start asks of the kind: its record is in the table, and a new configuration is legal and for every copy.
use Rattle.std.proofs.Common.{◌≡◌, ℕ, ◌<◌, [], ◌∷◌, length, sym, ap, ◌∙◌, subst, inl, inr}
use Rattle.std.specs.Prelude.{Option, None, Some, is_some, MatchOption, IsTrue, nat_lt}
use Rattle.std.proofs.lemmas.Bool.{ltb-true}
use Rattle.qc_names.specs.Name as name
use Rattle.qc_config.specs.Config.{IsLegal}
use Rattle.qc_event.specs.declared.event.Kind.{Kind}
use Rattle.qc_event.specs.declared.event.Kind.TheVariants as kind
use Rattle.qc_event.specs.Base.{Setting}
use Rattle.qc_event.specs.History.{Past, Name, Begun, start, start_in}
use Rattle.qc_event.specs.Manager.{record_of}
use Rattle.qc_event.specs.Standing.{IsUser, IsManager}
use Rattle.qc_event.specs.Starts.{Stands, Starts}
use Rattle.qc_event.specs.Users.{MayStartNext}
use Rattle.qc_event.specs.Legal.{Legal, MayHappen}
use Rattle.qc_event.proofs.OneEntry.{Starting, first_is, start_is, starting}

-- what a kind's start asks of it
abbrev pub KindFits : Setting → Kind → Type 0
KindFits setting (kind.Read rec) = IsTrue (nat_lt rec (length setting.firsts))
KindFits setting (kind.Write rec value) = IsTrue (nat_lt rec (length setting.firsts))
KindFits setting (kind.Reconf rec config) = IsTrue (nat_lt rec (length setting.firsts)) × (length config.votes ≡ length setting.base) × IsLegal config
KindFits setting _ = Unit {0}

user_fits : (setting : Setting) (k : Kind) → IsUser k → KindFits setting k
user_fits setting (kind.User session body) user = tt
user_fits setting (kind.Read rec) user = absurd user
user_fits setting (kind.Write rec value) user = absurd user
user_fits setting (kind.Reconf rec config) user = absurd user
user_fits setting kind.Access user = tt

stands_fits : (setting : Setting) (seat : ℕ) (parent : Begun) (depth : ℕ) (k : Kind) → Stands setting seat parent depth k → KindFits setting k
stands_fits setting seat parent depth (kind.User session body) h = tt
stands_fits setting seat parent depth (kind.Read rec) h = h.1
stands_fits setting seat parent depth (kind.Write rec value) h = h.1
stands_fits setting seat parent depth (kind.Reconf rec config) h = (h.1, h.2, h.3)
stands_fits setting seat parent depth kind.Access h = tt

next_fits : (setting : Setting) (past : Past) (seat : ℕ) (n : Name) (k : Kind) → MayStartNext (λ p. Stands setting seat p (length n) k) past seat n → KindFits setting k
next_fits setting past seat n k may = by_start (start past (name.front n)) may.stands
  where
    by_start : (o : Option Begun) → MatchOption o ⊥ (λ p. Stands setting seat p (length n) k) → KindFits setting k
    by_start None h = absurd h
    by_start (Some p) h = stands_fits setting seat p (length n) k h

starts_fits : (setting : Setting) (past : Past) (seat : ℕ) (n : Name) (k : Kind) → Starts setting past seat n k → KindFits setting k
starts_fits setting past seat [] k may = absurd may
starts_fits setting past seat (x ∷ []) k may = user_fits setting k may.user
starts_fits setting past seat (x ∷ y ∷ r) k may = next_fits setting past seat (x ∷ y ∷ r) k may

pub kind_fits : (setting : Setting) (past : Past) (n : Name) (b : Begun) → Legal setting past → start past n ≡ Some b → KindFits setting b.kind
kind_fits setting [] n b legal is = absurd cc
kind_fits setting (e ∷ past) n b legal is = elim (first_is (start past n) (start_in n e.seat e.event) b is) [
  | inl old ↦ kind_fits setting past n b legal.0 old
  | inr new ↦ began new.0 (starting n e.seat e.event (ap is_some new.1))
]
  where
    some_kind : (x y : Begun) → Some x ≡ Some y → x.kind ≡ y.kind
    some_kind x y h = let same : x ≡ y = cc in ap (λ (z : Begun). z.kind) same

    began : start past n ≡ None → Starting n e.event → KindFits setting b.kind
    began none (k, at) =
        subst (KindFits setting) (some_kind (record { seat = e.seat; kind = k }) b (sym (start_is e past n k none at) ∙ is))
        (starts_fits setting past e.seat n k (subst (MayHappen setting past e.seat) at legal.1))

-- the record of a manager that fits is in the table
pub record_fits : (setting : Setting) (k : Kind) → IsManager k → KindFits setting k → record_of k < length setting.firsts
record_fits setting (kind.Read rec) manager fits = ltb-true rec (length setting.firsts) fits
record_fits setting (kind.Write rec value) manager fits = ltb-true rec (length setting.firsts) fits
record_fits setting (kind.Reconf rec config) manager fits = ltb-true rec (length setting.firsts) fits.0
record_fits setting (kind.User session body) manager fits = absurd manager
record_fits setting kind.Access manager fits = absurd manager
