-- Over the scene's table: it is proper, and a manager that has asked nothing asks the copy first. What is asked there
-- may be granted, unless the copy did so.
use Rattle.std.proofs.Common.{◌≡◌, ℕ, zero, suc, ◌<◌, List, [], ◌∷◌, ◌++◌, refl, sym, ap, ◌∙◌, subst, arith, append_assoc}
use Rattle.std.specs.Prelude.{Option, None, Some, MatchOption, ◌==◌, ◌&&◌, nat_lt, find, filter, is_none, slice_index_or}
use Rattle.std.proofs.lemmas.List.{append_cancel_right}
use Rattle.qc_config.specs.Config.{Voting, IsLegal, votes_of}
use Rattle.qc_config.specs.Val.{Number}
use Rattle.qc_config.specs.declared.tuple.Tuple.{Tuple}
use Rattle.qc_config.specs.declared.tuple.Op.TheVariants.{Get}
use Rattle.qc_event.specs.declared.event.Ask.{Ask}
use Rattle.qc_event.specs.declared.event.Kind.TheVariants as kind
use Rattle.qc_event.specs.declared.event.Phase.TheVariants.{Collect}
use Rattle.qc_event.specs.Base.{Setting, IsProper, IsConfigFor, IsRowFor}
use Rattle.qc_event.specs.declared.table.Table.{Table}
use Rattle.qc_event.specs.Grants.{MayGrant, grant_with}
use Rattle.qc_event.specs.History.{Past, Name, asks, asked, granted}
use Rattle.qc_event.specs.Legal.{Legal}
use Rattle.qc_event.specs.Seats.{copy_seat}
use Rattle.qc_desk.specs.declared.view.View.{View}
use Rattle.qc_desk.specs.Calling.{Looked}
use Rattle.qc_desk.specs.Consulting.{HasAsked, IsFree}
use Rattle.qc_desk.proofs.Consulting.{stands}
use Rattle.qc_desk.proofs.NoGrants.{others_grant_none, ungranted}
use Rattle.qc_event.specs.Manager.{Stage, result, stage, collecting, is_phase, phase_of, all_copies, AtStage}
use Rattle.qc_event.specs.Requests.{IsNextAsk}
use Rattle.qc_event.specs.Tables.{setting_of}
use Rattle.qc_desk.specs.Entries.{AreOthers, IsOlder, IsSince}
use Rattle.qc_desk.proofs.OwnSince.{stage_of, replies_by, has_by}
use Rattle.rows_request.specs.OneCopy.{config, start, base, table}

abbrev pub setting : Setting
setting = setting_of table base

config_fits : IsConfigFor 1 config
config_fits = record { legal = legal; for_copies = refl }
  where
    legal : IsLegal config
    legal = record { some_votes = omega arith; some_read = omega arith; read_possible = omega arith; some_write = omega arith; write_possible = omega arith; overlap = omega arith }

pub proper : IsProper setting
proper = record {
  base = record {
    some_copy = omega arith;
    most_copies = omega arith;
    some_record = omega arith;
    most_records = omega arith;
    rows = λ n d less. row n d less;
  };
  firsts = λ n d less. first n d less;
}
  where
    first : (n : ℕ) (d : Voting) → n < 1 → IsConfigFor 1 (slice_index_or (config ∷ []) n d)
    first zero d less = config_fits
    first (suc n) d less = absurd (omega (arith, less))

    tuple : (n : ℕ) (d : Tuple) → n < 1 → IsConfigFor 1 (slice_index_or (record { version = 0; value = Number 0; generation = 0; config = config } ∷ []) n d).config
    tuple zero d less = config_fits
    tuple (suc n) d less = absurd (omega (arith, less))

    row : (n : ℕ) (d : List Tuple) → n < 1 → IsRowFor 1 1 (slice_index_or base n d)
    row zero d less = record { same_records = refl; configs = λ i t small. tuple i t small }
    row (suc n) d less = absurd (omega (arith, less))

-- THE FIRST STAGE

abbrev collect : Stage
collect = collecting (record { generation = 0; config = config })

abbrev next_by : List Ask → Option ℕ
next_by requests = find (λ copy. nat_lt 0 (votes_of config copy) && is_none (find (λ (ask : Ask). ask.copy == copy) (filter (λ (ask : Ask). is_phase Collect (phase_of ask.op)) requests))) all_copies

stage_is : (past : Past) (m : Name) → asks past m ≡ [] → stage past config m (kind.Read 0) ≡ Some collect
stage_is past m none = ap (λ requests. stage_of (replies_by requests (result past)) (has_by requests (result past)) config (kind.Read 0)) none

pub at_first : (past : Past) (m : Name) (ask : Ask) → ask.copy ≡ 0 → ask.rec ≡ 0 → ask.op ≡ Get → asks past m ≡ [] → AtStage setting past m (kind.Read 0) (IsNextAsk past m (kind.Read 0) ask)
at_first past m ask copy rec op none =
    subst (λ o. MatchOption o ⊥ (IsNextAsk past m (kind.Read 0) ask)) (sym (stage_is past m none))
    (record { next = ap next_by none ∙ ap Some (sym copy); same_record = rec; same_op = op })

-- WHAT OTHERS ENTERED SINCE

rest_others : (seat : ℕ) (xs ys : Past) → AreOthers seat (xs ++ ys) → AreOthers seat xs
rest_others seat [] ys all = tt
rest_others seat (x ∷ xs) ys all = (all.0, rest_others seat xs ys all.1)

pub since_later : (seat : ℕ) (first then now : Past) → IsOlder first then → IsOlder then now → IsSince seat first now → IsSince seat then now
since_later seat first then now a b c = (
  b.0,
  b.1,
  rest_others seat b.0 a.0 (subst (AreOthers seat) (append_cancel_right c.0 (b.0 ++ a.0) first (sym c.1 ∙ b.1 ∙ ap (λ p. b.0 ++ p) a.1 ∙ sym (append_assoc b.0 a.0 first))) c.2),
)

-- LOCKS

pub over_is : (table' : Table) (base' : List (List Tuple)) → table' ≡ table → base' ≡ base → setting_of table' base' ≡ setting
over_is table' base' t b = λ i. setting_of (t i) (b i)

pub row_is : (base' : List (List Tuple)) (given : List Tuple) (copy : ℕ) → base' ≡ base → copy ≡ 0 → given ≡ start → given ≡ slice_index_or base' copy []
row_is base' given copy b c is = is ∙ (λ i. slice_index_or (sym b i) (sym c i) [])

-- a request that was ungranted when it was made is so at the consultation, where only the copy grants
pub may_append : (s : Setting) (v w : View) (made : Past) (ask : Ask) (tuple : Tuple) → v.number ≡ 2 → ask.copy ≡ 0 → HasAsked made ask → granted made ask.access ≡ None → IsOlder v.seen made → IsOlder made w.seen → Legal s w.seen → Looked v w → IsFree s w.seen ask tuple
    → MayGrant s w.seen w.number 0 (grant_with ask tuple)
may_append s v w made ask tuple number copy has none first then legal looked free =
    subst (λ (x : ℕ × ℕ). MayGrant s w.seen x.0 x.1 (grant_with ask tuple)) (λ i. (seat i, copy i)) (free.may ungranted_now)
  where
    seat : copy_seat ask.copy ≡ w.number
    seat = ap copy_seat copy ∙ sym number ∙ sym (ap (λ (x : View). x.number) looked.1)

    request : (n : ℕ) × (asked made ask.access ≡ Some (record { seat = n; ask = ask }))
    request = stands (asked made ask.access) ask has

    since : IsSince 2 made w.seen
    since = since_later 2 v.seen made w.seen first then (subst (λ n. IsSince n v.seen w.seen) number looked.0)

    ungranted_now : granted w.seen ask.access ≡ None
    ungranted_now = ap (λ p. granted p ask.access) since.1 ∙ ungranted s made 0 since.0 ask.access (record { seat = request.0; ask = ask }) request.1 copy none (subst (Legal s) since.1 legal) (others_grant_none s made 0 since.0 (subst (Legal s) since.1 legal) since.2)
