-- What was told of a request is told for ever: how it was answered, that one was unable to answer it, and that the history was full.
use Rattle.std.proofs.Common.{◌≡◌, ◌≤◌, true, false, ◌++◌, sym, ap, subst, arith, length-append}
use Rattle.std.specs.Prelude.{length, Contains}
use Rattle.std.specs.Option.{option_map_or}
use Rattle.std.proofs.lemmas.List.Elements.{Contains-append_right}
use Rattle.qc_event.specs.Grants.{grant_with}
use Rattle.qc_event.specs.declared.event.Answered.{Answered}
use Rattle.qc_event.specs.declared.event.Answered.TheVariants as answered
use Rattle.qc_event.specs.declared.event.Ask.{Ask}
use Rattle.qc_event.specs.declared.event.Entry.{Entry}
use Rattle.qc_event.specs.declared.event.Why.{Why}
use Rattle.qc_event.specs.declared.event.Why.TheVariants.{Down, Full, Strange}
use Rattle.qc_event.specs.History.{Past, Name, grant_in, limit}
use Rattle.qc_event.specs.Requests.{is_why, unable_in, was_unable}
use Rattle.qc_event.proofs.Booleans.{any_right}
use Rattle.qc_event.proofs.StillTold.{is_stays}
use Rattle.qc_desk.specs.Answers.{HasAnswered, IsAnswered}
use Rattle.qc_desk.specs.Entries.{IsOlder}

pub unable_still : (newer past : Past) (n : Name) (why : Why) → was_unable past n why ≡ true → was_unable (newer ++ past) n why ≡ true
unable_still newer past n why h = any_right (λ (e : Entry). option_map_or (is_why why) (unable_in n e.event) false) newer past h

module _ (Stands : Past → Entry → Type 0) (stays : (newer past : Past) (e : Entry) → Stands past e → Stands (newer ++ past) e) where
  answered_more : (newer past : Past) (ask : Ask) (answer : Answered) → IsAnswered Stands ask.copy past ask answer → IsAnswered Stands ask.copy (newer ++ past) ask answer
  answered_more newer past ask (answered.Granted tuple) h = is_stays (λ e. grant_in ask.access e.event) newer past (record { copy = ask.copy; grant = grant_with ask tuple }) h
  answered_more newer past ask (answered.Blocked holder) h = stays newer past _ h
  answered_more newer past ask (answered.Dead ancestor) h = stays newer past _ h
  answered_more newer past ask answered.Down h = unable_still newer past ask.access Down h
  answered_more newer past ask answered.Full h = unable_still newer past ask.access Full h
  answered_more newer past ask answered.Strange h = unable_still newer past ask.access Strange h

  -- an answer that was given stands for ever
  pub answered_later : (seen now : Past) (ask : Ask) (answer : Answered) → IsOlder seen now → IsAnswered Stands ask.copy seen ask answer → IsAnswered Stands ask.copy now ask answer
  answered_later seen now ask answer older h = subst (λ p. IsAnswered Stands ask.copy p ask answer) (sym older.1) (answered_more older.0 seen ask answer h)

pub gave_later : (seen now : Past) (ask : Ask) (answer : Answered) → IsOlder seen now → HasAnswered ask.copy seen ask answer → HasAnswered ask.copy now ask answer
gave_later = answered_later (λ past e. Contains past e) (λ newer past e there. Contains-append_right newer past e there)

-- a history that was as long as it may be still is
pub full_still : (before now : Past) → IsOlder before now → length now ≤ limit → length before ≡ limit → length now ≡ limit
full_still before now older most is = omega (arith, is, most, ap length older.1, length-append older.0 before)
