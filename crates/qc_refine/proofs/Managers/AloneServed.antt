-- What an access was given is its one grant.
use Rattle.std.proofs.Common.{◌≡◌, ◌<◌, Bool, true, false, List, [], ◌∷◌, ◌++◌, length, refl, sym, ap, ap₂, ◌∙◌, subst}
use Rattle.std.specs.Prelude.{Option, None, Some, is_some, option_to_list, if◌then◌else◌}
use Rattle.std.specs.Option.{option_or}
use Rattle.qc_event.specs.declared.event.Answer.{Answer}
use Rattle.qc_event.specs.declared.event.Entry.{Entry}
use Rattle.qc_event.specs.declared.event.Event.{Event}
use Rattle.qc_event.specs.declared.event.Event.TheVariants as event
use Rattle.qc_event.specs.declared.event.How.TheVariants.{Commit, Abort}
use Rattle.qc_event.specs.declared.event.Kind.TheVariants as kind
use Rattle.qc_event.specs.Base.{Setting}
use Rattle.qc_event.specs.History.{Past, Name, Given, start, granted, grant_in, is_child, same}
use Rattle.qc_event.specs.Grants.{MayGrant}
use Rattle.qc_event.specs.Legal.{Legal, MayHappen}
use Rattle.qc_event.proofs.Absent.{same_is}
use Rattle.qc_event.proofs.OneEntry.{if_is}
use Rattle.qc_event.proofs.Lawful.{lawful, started_some}
use Rattle.qc_event.proofs.LegalOrderly.{legal_orderly}
use Rattle.qc_serial.specs.Visible.{given_in, served}
use Rattle.qc_refine.proofs.Managers.KindsBelow.{HasKind, kind_before, no_child}

-- who commits was started
pub commits_started : (setting : Setting) (past : Past) (e : Entry) (c : Name) (given : Answer) → Legal setting (e ∷ past) → e.event ≡ event.End c (Commit given) → is_some (start past c) ≡ true
commits_started setting past e c given legal is = started_some _ (start past c) (subst (MayHappen setting past e.seat) is legal.1)

to_list-if : (b : Bool) (g : Given) → (if b then g ∷ [] else []) ≡ option_to_list (if b then Some g else None)
to_list-if true g = refl
to_list-if false g = refl

none-if : (b : Bool) (gs : List Given) → (b ≡ true → ⊥) → (if b then gs else []) ≡ []
none-if true gs h = absurd (h refl)
none-if false gs h = refl

-- an entry gives an access its grant alone
gives_grant : (before : Name → List Given) (a : Name) (ev : Event) → ((c : Name) (given : Answer) → ev ≡ event.End c (Commit given) → is_child a c ≡ true → ⊥) → given_in before a ev ≡ option_to_list (grant_in a ev)
gives_grant before a (event.Granted copy grant) none = to_list-if (same grant.access a) (record { copy = copy; grant = grant })
gives_grant before a (event.End c (Commit given)) none = none-if (is_child a c) (before c) (none c given refl)
gives_grant before a (event.End c (Abort cause)) none = refl
gives_grant before a _ none = refl

first_only : (old new : Option Given) → ((g h : Given) → old ≡ Some g → new ≡ Some h → ⊥) → option_to_list old ++ option_to_list new ≡ option_to_list (option_or old new)
first_only None new h = refl
first_only (Some g) None h = refl
first_only (Some g) (Some x) h = absurd (h g x refl refl)

-- a second grant is none
once : (setting : Setting) (past : Past) (e : Entry) (a : Name) (g h : Given) → Legal setting (e ∷ past) → granted past a ≡ Some g → grant_in a e.event ≡ Some h → ⊥
once setting past e a g h legal old new = by_event e.event refl new
  where
    by_event : (ev : Event) → e.event ≡ ev → grant_in a ev ≡ Some h → ⊥
    by_event (event.Granted copy grant) is now =
        let may : MayGrant setting past e.seat copy grant = subst (MayHappen setting past e.seat) is legal.1 in
        let here : same grant.access a ≡ true = (if_is (same grant.access a) (record { copy = copy; grant = grant }) h now).0 in
        let none : granted past a ≡ None = ap (granted past) (sym (same_is grant.access a here)) ∙ may.first_time in
        absurd (let differ = sym none ∙ old in cc)
    by_event _ is now = absurd cc

pub alone_served : (setting : Setting) (past : Past) (a : Name) → Legal setting past → 0 < length a → HasKind past a kind.Access → served past a ≡ option_to_list (granted past a)
alone_served setting [] a legal pos has = refl
alone_served setting (e ∷ past) a legal pos has =
    let before = alone_served setting past a legal.0 pos (kind_before e past a kind.Access has) in
    let law = lawful past (legal_orderly setting past legal.0) in
    let none = λ (c : Name) (given : Answer) (is : e.event ≡ event.End c (Commit given)) (child : is_child a c ≡ true).
    no_child past a c law pos (kind_before e past a kind.Access has) child (commits_started setting past e c given legal is) in
    ap₂ (λ xs ys. xs ++ ys) before (gives_grant (served past) a e.event none)
    ∙ first_only (granted past a) (grant_in a e.event) (λ g h old new. once setting past e a g h legal old new)
