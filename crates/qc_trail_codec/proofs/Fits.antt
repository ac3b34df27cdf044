-- What can be saved fits its form, where its numbers are in the range of their types.
use Rattle.std.proofs.Common.{◌≡◌, ℕ, ◌^◌, ◌<◌, List, [], ◌∷◌, length, Option, None, Some, refl, arith}
use Rattle.std.specs.Prelude.{IsTrue, slice_index_or}
use Rattle.std.specs.List.{All}
use Rattle.qc_config.specs.Config.{Voting}
use Rattle.qc_config.specs.Val.{Datum}
use Rattle.qc_config.specs.declared.tuple.Op.TheVariants.{PutData, PutConfig}
use Rattle.qc_config.specs.declared.tuple.Tuple.{Tuple}
use Rattle.qc_event.specs.declared.event.Answer.TheVariants.{Value, Generation}
use Rattle.qc_event.specs.declared.event.Entry.{Entry}
use Rattle.qc_event.specs.declared.event.Event.TheVariants as event_is
use Rattle.qc_event.specs.declared.event.Kind.TheVariants.{User, Write}
use Rattle.qc_event.specs.declared.event.Why.{Why}
use Rattle.qc_event.specs.declared.event.Why.TheVariants.{Lost, Late, Down, Full, Strange}
use Rattle.qc_event.specs.declared.event.Phase.{Phase}
use Rattle.qc_event.specs.declared.event.Phase.TheVariants.{Collect, Values, Configs}
use Rattle.qc_event.specs.declared.event.Lack.{Lack}
use Rattle.qc_event.specs.History.{Name}
use Rattle.qc_codec.specs.Fields.{config, current, current_format, datum, half, long, name, word, Layout, IsNumbered}
use Rattle.qc_trail_codec.specs.Events.{op, kind, answer, event, entry}
use Rattle.qc_trail_codec.specs.Reasons.{why, is_inability, inability, reason, copies, number_of, phase, lack}
use Rattle.qc_trail_codec.specs.Trail.{base, trail}
use Rattle.qc_trail_codec.proofs.Marks.{number_small}

pub numbered_some : (n : Name) → IsNumbered n → 0 < length n
numbered_some [] numbered = absurd numbered
numbered_some (x ∷ n) numbered = omega arith

-- REASONS AND LACKS

why_fits : (w : Why) → why.fits w
unfolding why
why_fits Lost = refl
why_fits Late = refl
why_fits Down = refl
why_fits Full = refl
why_fits Strange = refl

inability_fits : (w : Why) → IsTrue (is_inability w) → inability.fits w
unfolding inability
inability_fits w is = (why_fits w, is)

reason_fits : (o : Option Why) → reason.fits o
unfolding reason
reason_fits None = refl
reason_fits (Some Lost) = refl
reason_fits (Some Late) = refl
reason_fits (Some Down) = refl
reason_fits (Some Full) = refl
reason_fits (Some Strange) = refl

phase_fits : (p : Phase) → phase.fits p
unfolding phase
phase_fits Collect = refl
phase_fits Values = refl
phase_fits Configs = refl

pub lack_fits : (l : Lack) → length l.replied ≡ 16 → length l.missing ≡ 16 → lack.fits l
unfolding lack copies half
lack_fits l marks places =
    let small : number_of l.replied < 2 ^ 16 = number_small 16 l.replied (omega arith) in
    ((phase_fits l.phase, ((small, marks), (places, λ k d lt. reason_fits (slice_index_or l.missing k d)))), tt)

-- OPERATIONS, KINDS, ANSWERS AND REASONS WITH NUMBERS OF MORE THAN ONE BYTE

pub data_fits : (layout : Layout) (version : ℕ) (value : Datum) → version < 2 ^ 64 → (datum layout.format).fits value → (op layout).fits (PutData version value)
unfolding op long
data_fits layout version value a b = (a, b)

pub put_config_fits : (layout : Layout) (generation : ℕ) (c : Voting) → generation < 2 ^ 64 → (config layout).fits c → (op layout).fits (PutConfig generation c)
unfolding op long
put_config_fits layout generation c a b = (a, b)

pub user_fits : (layout : Layout) (session body : ℕ) → session < 256 → body < 2 ^ 32 → (kind layout).fits (User session body)
unfolding kind word
user_fits layout session body a b = (a, b)

pub write_fits : (layout : Layout) (rec : ℕ) (value : Datum) → rec < 256 → (datum layout.format).fits value → (kind layout).fits (Write rec value)
unfolding kind long
write_fits layout rec value a b = (a, b)

pub value_fits : (layout : Layout) (value : Datum) → (datum layout.format).fits value → (answer layout).fits (Value value)
unfolding answer long
value_fits layout value a = a

pub generation_fits : (layout : Layout) (generation : ℕ) → generation < 2 ^ 64 → (answer layout).fits (Generation generation)
unfolding answer long
generation_fits layout generation a = a

pub gone_fits : (layout : Layout) (n : Name) (w : Why) → (name 1).fits n → (event layout).fits (event_is.Gone n w)
unfolding event
gone_fits layout n w named = (named, why_fits w)

pub unable_fits : (layout : Layout) (n : Name) (w : Why) → (name 1).fits n → IsTrue (is_inability w) → (event layout).fits (event_is.Unable n w)
unfolding event
unable_fits layout n w named is = (named, inability_fits w is)

pub entry_fits : (layout : Layout) (e : Entry) → e.seat < 2 ^ 32 → (event layout).fits e.event → (entry layout).fits e
unfolding entry word
entry_fits layout e seat fits = ((seat, fits), tt)

pub trail_fits : (b : List (List Tuple)) (entries : List Entry) → (base current_format).fits b → length entries < 2 ^ 64 → All (entry (current (length b))).fits entries → (trail current_format).fits (record { base = b; entries = entries })
unfolding trail long
trail_fits b entries fits few each = ((fits, ((few, (refl, each)), tt)), tt)
