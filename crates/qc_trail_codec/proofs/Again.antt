-- What fits its form can be saved, so what was read can be saved again.
use Rattle.std.proofs.Common.{ℕ, List, length, arith}
use Rattle.std.specs.Prelude.{nat_le}
use Rattle.std.specs.List.{All}
use Rattle.std.proofs.lemmas.Bool.{and_parts, leb-true}
use Rattle.qc_config.specs.declared.tuple.Op.{Op}
use Rattle.qc_config.specs.declared.tuple.Op.TheVariants.{Get, PutData, PutConfig}
use Rattle.qc_config.specs.declared.tuple.Tuple.{Tuple}
use Rattle.qc_event.specs.Base.{IsProperBase}
use Rattle.qc_event.specs.declared.event.Answer.{Answer}
use Rattle.qc_event.specs.declared.event.Answer.TheVariants.{Nothing, Value, Generation, Reply}
use Rattle.qc_event.specs.declared.event.Ask.{Ask}
use Rattle.qc_event.specs.declared.event.Cause.{Cause}
use Rattle.qc_event.specs.declared.event.Cause.TheVariants as cause_is
use Rattle.qc_event.specs.declared.event.Entry.{Entry}
use Rattle.qc_event.specs.declared.event.Event.{Event}
use Rattle.qc_event.specs.declared.event.Event.TheVariants as event_is
use Rattle.qc_event.specs.declared.event.Grant.{Grant}
use Rattle.qc_event.specs.declared.event.How.{How}
use Rattle.qc_event.specs.declared.event.How.TheVariants.{Commit, Abort}
use Rattle.qc_event.specs.declared.event.Kind.{Kind}
use Rattle.qc_event.specs.declared.event.Kind.TheVariants.{User, Read, Write, Reconf, Access}
use Rattle.qc_event.specs.declared.event.Refusal.{Refusal}
use Rattle.qc_event.specs.declared.event.Refusal.TheVariants.{Blocked, Dead}
use Rattle.qc_codec.specs.Bodies.{granted}
use Rattle.qc_codec.specs.Fields.{Layout}
use Rattle.qc_codec.proofs.Fits.{config_votes, tuple_votes, tuple_legal, name_numbered, granted_votes}
use Rattle.qc_trail_codec.specs.Events.{op, kind, answer, cause, how, ask, refusal, event, entry}
use Rattle.qc_trail_codec.specs.Reasons.{inability}
use Rattle.qc_trail_codec.specs.Saving.{records_of, IsOpFor, IsKindFor, IsAnswerFor, IsNumberedCause, IsNumberedRefusal, CanEndBeSaved, CanAskBeSaved, CanGrantBeSaved, CanEventBeSaved, CanBeSaved}
use Rattle.qc_trail_codec.specs.Trail.{layout_of, base, trail}
use Rattle.qc_trail_codec.specs.declared.record.SavedTrail.{SavedTrail}

module _ (layout : Layout) where
  op_again : (o : Op) → (op layout).fits o → IsOpFor layout.copies o
  unfolding op
  op_again Get fits = tt
  op_again (PutData version value) fits = tt
  op_again (PutConfig generation config) fits = config_votes layout config fits.1

  kind_again : (k : Kind) → (kind layout).fits k → IsKindFor layout.copies k
  unfolding kind
  kind_again (User session body) fits = tt
  kind_again (Read rec) fits = tt
  kind_again (Write rec value) fits = tt
  kind_again (Reconf rec config) fits = config_votes layout config fits.1
  kind_again Access fits = tt

  answer_again : (a : Answer) → (answer layout).fits a → IsAnswerFor layout.copies a
  unfolding answer
  answer_again Nothing fits = tt
  answer_again (Value value) fits = tt
  answer_again (Generation generation) fits = tt
  answer_again (Reply t) fits = tuple_votes layout t fits

  cause_again : (c : Cause) → cause.fits c → IsNumberedCause c
  unfolding cause
  cause_again (cause_is.Asked by) fits = name_numbered 1 by fits
  cause_again (cause_is.Conflict copy holder) fits = name_numbered 1 holder fits.1
  cause_again (cause_is.NoQuorum lack) fits = tt
  cause_again cause_is.Last fits = tt
  cause_again (cause_is.Orphan ancestor) fits = name_numbered 1 ancestor fits
  cause_again cause_is.Killed fits = tt
  cause_again (cause_is.Child child) fits = name_numbered 1 child fits
  cause_again cause_is.Missed fits = tt

  how_again : (h : How) → (how layout).fits h → CanEndBeSaved layout.copies h
  unfolding how
  how_again (Commit given) fits = answer_again given fits
  how_again (Abort c) fits = cause_again c fits

  ask_again : (a : Ask) → (ask layout).fits a → CanAskBeSaved layout.copies a
  unfolding ask
  ask_again a fits = record { numbered = name_numbered 1 a.access fits.0.0; for_copies = op_again a.op fits.0.1.1.1 }

  refusal_again : (r : Refusal) → refusal.fits r → IsNumberedRefusal r
  unfolding refusal
  refusal_again (Blocked holder) fits = name_numbered 1 holder fits
  refusal_again (Dead ancestor) fits = name_numbered 1 ancestor fits

  grant_again : (g : Grant) → (granted 1 layout).fits g → CanGrantBeSaved layout.copies g
  unfolding granted
  grant_again g fits = record { numbered = name_numbered 1 g.access fits.0.0; for_copies = granted_votes 1 layout g fits; sets = fits.1 }

  event_again : (ev : Event) → (event layout).fits ev → CanEventBeSaved layout.copies ev
  unfolding event inability
  event_again (event_is.Start n k) fits = (name_numbered 1 n fits.0, kind_again k fits.1)
  event_again (event_is.Ask a) fits = ask_again a fits
  event_again (event_is.Gone access why) fits = name_numbered 1 access fits.0
  event_again (event_is.Granted copy g) fits = grant_again g fits.1
  event_again (event_is.Refused access copy r) fits = (name_numbered 1 access fits.0, refusal_again r fits.1.1)
  event_again (event_is.Unable n why) fits = (name_numbered 1 n fits.0, fits.1.1)
  event_again (event_is.Mark by session) fits = let small = leb-true session 15 fits.1.1 in (name_numbered 1 by fits.0, omega arith)
  event_again (event_is.Ready top) fits = name_numbered 1 top fits
  event_again (event_is.End n h) fits = (name_numbered 1 n fits.0, how_again h fits.1)

  entry_again : (e : Entry) → (entry layout).fits e → CanBeSaved layout.copies e
  unfolding entry
  entry_again e fits = event_again e.event fits.0.1

base_again : (format : ℕ) (b : List (List Tuple)) → (base format).fits b → IsProperBase (records_of b) b
unfolding base
base_again format b fits =
    let copies = and_parts (nat_le 1 (length b)) _ fits.0.0.1 in
    let records = and_parts (nat_le 1 (records_of b)) _ fits.0.1.0.1 in
    let some_copy = leb-true 1 (length b) copies.0 in
    let some_record = leb-true 1 (records_of b) records.0 in
    record {
      some_copy = omega arith;
      most_copies = leb-true (length b) 16 copies.1;
      some_record = omega arith;
      most_records = leb-true (records_of b) 64 records.1;
      rows = λ k d lt. record {
        same_records = (fits.0.1.1.1 k d lt).0;
        configs = λ j t within. record {
          legal = tuple_legal (layout_of format (length b)) _ ((fits.0.1.1.1 k d lt).1 j t within);
          for_copies = tuple_votes (layout_of format (length b)) _ ((fits.0.1.1.1 k d lt).1 j t within);
        };
      };
    }

pub trail_again : (format : ℕ) (t : SavedTrail) → (trail format).fits t → IsProperBase (records_of t.base) t.base × All (CanBeSaved (length t.base)) t.entries
unfolding trail
trail_again format t fits = (base_again format t.base fits.0.0, λ k d lt. entry_again (layout_of format (length t.base)) _ (fits.0.1.0.1.1 k d lt))
