-- Requests that meet the fates of their link meet them for ever, and one more that does joins them.
use Rattle.std.proofs.Common.{◌≡◌, ℕ, true, false, List, [], ◌∷◌, ◌++◌, refl, ap, ◌∙◌, ◌⊎◌, inl, inr}
use Rattle.std.specs.Prelude.{None, ◌&&◌, not, is_none}
use Rattle.std.specs.List.{AllByRecursion, list_all}
use Rattle.std.specs.Option.{option_map_or}
use Rattle.std.proofs.lemmas.Bool.{and_from, and_parts, or_cases, or_left, or_right}
use Rattle.qc_event.specs.declared.event.Ask.{Ask}
use Rattle.qc_event.specs.declared.event.Why.{Why}
use Rattle.qc_event.specs.declared.event.Why.TheVariants.{Lost, Late}
use Rattle.qc_event.specs.History.{Past, Name, end, gone}
use Rattle.qc_event.specs.Requests.{is_why}
use Rattle.qc_carry.specs.Kept.{sendings}
use Rattle.qc_net.specs.Messages.{was_answered, was_given_up, is_told, is_met, are_met}
use Rattle.qc_carry.proofs.Answered.{all_answered_still}
use Rattle.qc_net.specs.Plan.{Plan}
use Rattle.qc_net.specs.Sending.{Outcome, answered, lost, late, Sending, sending, Way}

-- Of a name no end has come, and no reason either where it has ended.
pub record IsLeft (past now : Past) (n : Name) : Type 0 where
  pub ends : end now n ≡ end past n
  pub goes : (end past n ≡ None) ⊎ (gone now n ≡ gone past n)

-- ONE REQUEST

given_up_same : (past now : Past) (n : Name) (why : Why) → gone now n ≡ gone past n → was_given_up now n why ≡ was_given_up past n why
given_up_same past now n why same = ap (λ o. option_map_or (is_why why) o false) same

told_same : (past now : Past) (n : Name) (o : Outcome) → gone now n ≡ gone past n → is_told now n o ≡ is_told past n o
told_same past now n (answered later) same = ap (λ g. not (option_map_or (is_why Lost) g false) && not (option_map_or (is_why Late) g false)) same
told_same past now n lost same = given_up_same past now n Lost same
told_same past now n late same = given_up_same past now n Late same

-- one that has not ended is met
pub met_unended : (past : Past) (ask : Ask) (s : Sending) → end past ask.access ≡ None → is_met past ask s ≡ true
met_unended past ask s none = or_left (is_none (end past ask.access)) _ (ap is_none none)

pub met_told : (past : Past) (ask : Ask) (s : Sending) → is_told past ask.access s.outcome ≡ true → list_all (λ (a : Ask). was_answered past a.access) s.way.delivered ≡ true → is_met past ask s ≡ true
met_told past ask s told answers = or_right (is_none (end past ask.access)) _ (and_from (is_told past ask.access s.outcome) (list_all (λ (a : Ask). was_answered past a.access) s.way.delivered) told answers)

met_still : (newer past : Past) (ask : Ask) (s : Sending) → IsLeft past (newer ++ past) ask.access → is_met past ask s ≡ true → is_met (newer ++ past) ask s ≡ true
met_still newer past ask s left h = elim left.goes [
  | inl none ↦ met_unended (newer ++ past) ask s (left.ends ∙ none)
  | inr same ↦ elim (or_cases (is_none (end past ask.access)) (is_told past ask.access s.outcome && list_all (λ (a : Ask). was_answered past a.access) s.way.delivered) h) [
    | inl none ↦ or_left (is_none (end (newer ++ past) ask.access)) _ (ap is_none left.ends ∙ none)
    | inr told ↦
        let parts = and_parts (is_told past ask.access s.outcome) (list_all (λ (a : Ask). was_answered past a.access) s.way.delivered) told in
        met_told (newer ++ past) ask s (told_same past (newer ++ past) ask.access s.outcome same ∙ parts.0) (all_answered_still newer past s.way.delivered parts.1)
  ]
]

-- EACH REQUEST

pub are_met_still : (patience : ℕ) (newer past : Past) (plan : Plan) (held requests : List Ask) → AllByRecursion (λ (a : Ask). IsLeft past (newer ++ past) a.access) requests → are_met patience past plan held requests ≡ true → are_met patience (newer ++ past) plan held requests ≡ true
are_met_still patience newer past plan held [] left h = refl
are_met_still patience newer past plan held (ask ∷ rest) left h =
    let s = sending plan held ask patience in
    let parts = and_parts (is_met past ask s) (are_met patience past s.way.plan s.way.held rest) h in
    and_from (is_met (newer ++ past) ask s) (are_met patience (newer ++ past) s.way.plan s.way.held rest) (met_still newer past ask s left.0 parts.0) (are_met_still patience newer past s.way.plan s.way.held rest left.1 parts.1)

pub are_met_more : (patience : ℕ) (past : Past) (way : Way) (requests : List Ask) (ask : Ask) → are_met patience past way.plan way.held requests ≡ true
    → is_met past ask (sending (sendings patience way requests).plan (sendings patience way requests).held ask patience) ≡ true → are_met patience past way.plan way.held (requests ++ ask ∷ []) ≡ true
are_met_more patience past way [] ask all here = and_from (is_met past ask (sending way.plan way.held ask patience)) true here refl
are_met_more patience past way (a ∷ rest) ask all here =
    let s = sending way.plan way.held a patience in
    let parts = and_parts (is_met past a s) (are_met patience past s.way.plan s.way.held rest) all in
    and_from (is_met past a s) (are_met patience past s.way.plan s.way.held (rest ++ ask ∷ [])) parts.0 (are_met_more patience past s.way rest ask parts.1 here)

pub sendings_more : (patience : ℕ) (way : Way) (requests : List Ask) (ask : Ask) → sendings patience way (requests ++ ask ∷ []) ≡ (sending (sendings patience way requests).plan (sendings patience way requests).held ask patience).way
sendings_more patience way [] ask = refl
sendings_more patience way (a ∷ rest) ask = sendings_more patience (sending way.plan way.held a patience).way rest ask
