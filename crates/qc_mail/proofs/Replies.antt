-- What a reply tells of one's own request.
use Rattle.std.proofs.Common.{◌≡◌, List, [], ◌∷◌, ◌++◌, sym, ap, ◌∙◌, subst}
use Rattle.std.specs.Prelude.{Option, None, Some, IfOk, IfSome, Result, Ok, Err, option_to_list, length}
use Rattle.std.specs.Option.{option_map}
use Rattle.std.proofs.lemmas.List.Elements.{Contains-append_right}
use Rattle.std.proofs.Math.Logic.{∥∥₁_map}
use Rattle.qc_event.specs.declared.event.Answered.{Answered}
use Rattle.qc_event.specs.declared.event.Ask.{Ask}
use Rattle.qc_event.specs.declared.event.Entry.{Entry}
use Rattle.qc_event.specs.declared.short.Short.{Short}
use Rattle.qc_event.specs.History.{Past, Asked, asked}
use Rattle.qc_desk.specs.Consulting.{HasAsked}
use Rattle.qc_desk.specs.Calling.{Shown, SeesMore}
use Rattle.qc_desk.specs.declared.view.View.{View}
use Rattle.qc_desk.specs.Entries.{IsOlder}
use Rattle.qc_desk.proofs.Answered.{answered_later}
use Rattle.qc_desk.proofs.Consulting.{asked_later}
use Rattle.qc_lane.specs.declared.lane.Request.{Request}
use Rattle.qc_lane.specs.Ends.{IsLast}
use Rattle.qc_lane.specs.Lanes.{of}
use Rattle.qc_mail.specs.Serving.{HasAnswered, StandsIn}

stands_still : (newer past : Past) (e : Entry) → StandsIn past e → StandsIn (newer ++ past) e
stands_still newer past e there = ∥∥₁_map there (λ t. Contains-append_right newer past e t)

-- two requests of one access in one history are one
pub one_ask : (now : Past) (a b : Ask) → HasAsked now a → HasAsked now b → a.access ≡ b.access → a ≡ b
one_ask now a b ha hb same = some_same (sym ha ∙ ap (λ n. option_map (λ (q : Asked). q.ask) (asked now n)) same ∙ hb)
  where
    some_same : {x y : Ask} → Some x ≡ Some y → x ≡ y
    some_same e = cc

-- the answer in a reply is one to the own request of the access
pub own_answer : (seen now mine : Past) (ask own : Ask) (answer : Result Answered Short) → IsOlder seen now → IsOlder mine now → HasAsked seen ask → HasAsked mine own → ask.access ≡ own.access
    → IfOk answer (HasAnswered ask.copy seen ask) → IfOk answer (HasAnswered own.copy now own)
own_answer seen now mine ask own (Ok a) older later asked_it asked_own same h =
    let is : ask ≡ own = one_ask now ask own (asked_later seen now ask older asked_it) (asked_later mine now own later asked_own) same in
    subst (λ (q : Ask). HasAnswered q.copy now q a) is (answered_later StandsIn stands_still seen now ask a older h)
own_answer seen now mine ask own (Err short) older later asked_it asked_own same h = tt

-- the request that was taken is the last
pub is_last : (old new : List Request) (o : Option Request) (r : Request) → new ≡ old ++ option_to_list o → r ∷ [] ≡ option_to_list o → IfSome o (λ (q : Request). q.number ≡ length (of q.from old)) → IsLast new r
is_last old new None r grown same number = absurd (cc)
is_last old new (Some q) r grown same number =
    let is : q ≡ r = cc in
    record { before = old; last = grown ∙ ap (λ (x : Request). old ++ x ∷ []) is; number = subst (λ (x : Request). x.number ≡ length (of x.from old)) is number }

pub jobs_last : {P : Type 0} (Q : Request × P → Type 0) (job : Option (Request × P)) (o told : Option Request) (old new : List Request) → new ≡ old ++ option_to_list o → option_to_list told ≡ option_to_list o
    → IfSome o (λ (q : Request). q.number ≡ length (of q.from old)) → IfSome job (λ j. (told ≡ Some j.0) × Q j) → IfSome job (λ j. IsLast new j.0)
jobs_last Q None o told old new grown same number is = tt
jobs_last Q (Some j) o told old new grown same number is = is_last old new o j.0 grown (ap option_to_list (sym is.0) ∙ same) number

-- a pass that was shown a history has seen more
pub sees : (v u w : View) → u ≡ v → Shown u w → SeesMore v w
sees v u w same shown = subst (λ (x : View). SeesMore x w) same record {
  older = shown.0;
  mine = ap (λ (x : View). x.mine) shown.1;
  number = ap (λ (x : View). x.number) shown.1;
  live = ap (λ (x : View). x.live) shown.1;
  out = ap (λ (x : View). x.out) shown.1;
  kin = ap (λ (x : View). x.kin) shown.1;
}
