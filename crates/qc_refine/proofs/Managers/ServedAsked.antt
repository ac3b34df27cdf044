-- What a manager was given are its requests that replied, in their order, each with its reply.
use Rattle.std.proofs.Common.{◌≡◌, ◌<◌, true, List, [], ◌∷◌, ◌++◌, length, refl, sym, ap, ap₂, ◌∙◌, subst, inl, inr, append-nil, arith}
use Rattle.std.specs.Prelude.{Option, None, Some, is_some, MatchOption, option_to_list, filter_map}
use Rattle.std.specs.Option.{option_map}
use Rattle.std.specs.List.{cons_option}
use Rattle.std.proofs.lemmas.List.Elements.{filter_map-append}
use Rattle.qc_event.specs.declared.event.Answer.TheVariants as answer
use Rattle.qc_event.specs.declared.event.Ask.{Ask}
use Rattle.qc_event.specs.declared.event.Entry.{Entry}
use Rattle.qc_event.specs.declared.event.Event.TheVariants as event
use Rattle.qc_event.specs.declared.event.How.TheVariants.{Commit}
use Rattle.qc_event.specs.declared.event.Kind.{Kind}
use Rattle.qc_event.specs.Base.{Setting}
use Rattle.qc_event.specs.History.{Past, Name, Given, asked, asks, ask_below, is_child}
use Rattle.qc_event.specs.Standing.{IsManager}
use Rattle.qc_event.specs.Manager.{reply}
use Rattle.qc_event.specs.Legal.{Legal}
use Rattle.qc_event.proofs.Lawful.{lawful}
use Rattle.qc_event.proofs.LegalOrderly.{legal_orderly}
use Rattle.qc_event.proofs.LastNumber.{child_last, length_last}
use Rattle.qc_event.proofs.OneEntry.{end_now}
use Rattle.qc_event.proofs.Options.{some_match}
use Rattle.qc_serial.specs.Visible.{given_in, served}
use Rattle.qc_serial.proofs.OneAsked.{one_asked}
use Rattle.qc_refine.proofs.Managers.Replies.{given_as, given_for, open_silent, reply_step, reply_now, ended_still}
use Rattle.qc_refine.proofs.Managers.KindsBelow.{HasKind, kind_before, child_access}
use Rattle.qc_refine.proofs.Managers.AloneServed.{alone_served, commits_started}
use Rattle.qc_refine.proofs.Managers.LastOpen.{Asks, AllEnded, IsWaiting, asks_or_not, asks_more, asks_same, may_ask, ask_ends_none, ended_before, last_open, none_open}
use Rattle.qc_refine.proofs.Managers.Delivers.{Delivers, IsQuiet, AskedFor, ask_of, delivers_or_not}

-- the replies of requests, in order
abbrev pub given_to : Past → List Ask → List Given
given_to past requests = filter_map (given_for past) requests

one_given : (o : Option Given) → cons_option o [] ≡ option_to_list o
one_given None = refl
one_given (Some g) = refl

given_last : (past : Past) (before : List Ask) (ask : Ask) → given_to past (before ++ ask ∷ []) ≡ given_to past before ++ option_to_list (given_for past ask)
given_last past before ask = filter_map-append (given_for past) before (ask ∷ []) ∙ ap (λ gs. given_to past before ++ gs) (one_given (given_for past ask))

-- requests that have ended reply what they did
given_still : (e : Entry) (past : Past) (rest : List Ask) → AllEnded past rest → given_to (e ∷ past) rest ≡ given_to past rest
given_still e past [] all = refl
given_still e past (a ∷ rest) all = ap₂ (λ o gs. cons_option (option_map (given_as a) o) gs) (ended_still e past a.access all.0) (given_still e past rest all.1)

silent : (past : Past) (ask : Ask) → reply past ask.access ≡ None → given_for past ask ≡ None
silent past ask none = ap (option_map (given_as ask)) none

given_open : (past : Past) (before : List Ask) (ask : Ask) → reply past ask.access ≡ None → given_to past (before ++ ask ∷ []) ≡ given_to past before
given_open past before ask none = given_last past before ask ∙ ap (λ o. given_to past before ++ option_to_list o) (silent past ask none) ∙ append-nil (given_to past before)

asked_some : (past : Past) (n : Name) (g : Given) → AskedFor past n g → is_some (asked past n) ≡ true
asked_some past n g h = some_match (asked past n) (λ a. a.ask ≡ ask_of g) h

long : (c m : Name) → is_child m c ≡ true → 0 < length c
long c m is = let (j, last) = child_last m c is in omega (arith, length_last m j, ap length last)

module _ (setting : Setting) (past : Past) (e : Entry) (m : Name) (k : Kind) (legal : Legal setting (e ∷ past)) (pos : 0 < length m) (has : HasKind past m k) (manager : IsManager k) where
  -- the child that delivers is the one that is waited for
  delivers_last : Delivers past m e.event → IsWaiting past m
  delivers_last d = elim (last_open setting past m legal.0) [
    | inl all ↦ absurd (none_open setting past m d.access legal.0 all d.child (asked_some past d.access d.g d.asked_for) d.going)
    | inr last ↦ last
  ]

  same_access : (d : Delivers past m e.event) (last : IsWaiting past m) → last.ask.access ≡ d.access
  same_access d last = one_asked setting past m last.ask.access d.access legal.0 last.child d.child (ap is_some last.asked_as) (asked_some past d.access d.g d.asked_for) last.going d.going

  same_ask : (d : Delivers past m e.event) (last : IsWaiting past m) → last.ask ≡ ask_of d.g
  same_ask d last = subst (λ o. MatchOption o ⊥ (λ a. a.ask ≡ ask_of d.g)) last.asked_as (subst (λ n. AskedFor past n d.g) (sym (same_access d last)) d.asked_for)

  -- what is delivered stands last
  pub served_more : (d : Delivers past m e.event) → served (e ∷ past) m ≡ served past m ++ d.g ∷ []
  served_more d =
      let law = lawful past (legal_orderly setting past legal.0) in
      let access = child_access past m d.access k law pos has manager d.child (commits_started setting past e d.access _ legal d.is) in
      ap (λ gs. served past m ++ gs) (d.gives ∙ alone_served setting past d.access legal.0 (long d.access m d.child) access ∙ ap option_to_list d.was_granted)

  pub served_same : IsQuiet past m e.event → served (e ∷ past) m ≡ served past m
  served_same quiet = ap (λ gs. served past m ++ gs) quiet.nothing ∙ append-nil (served past m)

  given_asks : Asks m e.event → served past m ≡ given_to past (asks past m) → served (e ∷ past) m ≡ given_to (e ∷ past) (asks (e ∷ past) m)
  given_asks new before =
      ap (λ ev. served past m ++ given_in (served past) m ev) new.is
      ∙ append-nil (served past m)
      ∙ before
      ∙ sym (given_still e past (asks past m) (ended_before setting past e m legal new))
      ∙ sym (given_open (e ∷ past) (asks past m) new.ask (open_silent (e ∷ past) new.ask.access (ask_ends_none e past new.ask.access new.ask new.is ∙ (may_ask setting past e new.ask legal new.is).going.is_open.not_ended)))
      ∙ ap (given_to (e ∷ past)) (sym (asks_more e past m new))

  given_delivers : ask_below m e.event ≡ None → (d : Delivers past m e.event) (last : IsWaiting past m) → served past m ≡ given_to past (asks past m) → served (e ∷ past) m ≡ given_to (e ∷ past) (asks (e ∷ past) m)
  given_delivers none d last before =
      served_more d
      ∙ ap (λ gs. gs ++ d.g ∷ []) (before ∙ ap (given_to past) last.parts ∙ given_open past last.before last.ask (open_silent past last.ask.access last.going) ∙ sym (given_still e past last.before last.ended))
      ∙ ap (λ o. given_to (e ∷ past) last.before ++ option_to_list o) (sym now)
      ∙ sym (given_last (e ∷ past) last.before last.ask)
      ∙ ap (given_to (e ∷ past)) (sym (asks_same e past m none ∙ last.parts))
    where
      is : e.event ≡ event.End last.ask.access (Commit (answer.Reply d.g.grant.tuple))
      is = d.is ∙ ap (λ n. event.End n (Commit (answer.Reply d.g.grant.tuple))) (sym (same_access d last))

      now : given_for (e ∷ past) last.ask ≡ Some d.g
      now =
          ap (option_map (given_as last.ask)) (reply_now e past last.ask.access d.g.grant.tuple last.going (end_now last.ask.access e.event _ is))
          ∙ ap (λ a. Some (given_as a d.g.grant.tuple)) (same_ask d last)

  given_quiet : ask_below m e.event ≡ None → IsQuiet past m e.event → served past m ≡ given_to past (asks past m) → served (e ∷ past) m ≡ given_to (e ∷ past) (asks (e ∷ past) m)
  given_quiet none quiet before = served_same quiet ∙ before ∙ sym still ∙ ap (given_to (e ∷ past)) (sym (asks_same e past m none))
    where
      stays_silent : (last : IsWaiting past m) → reply (e ∷ past) last.ask.access ≡ None
      stays_silent last = elim (reply_step e past last.ask.access) [
        | inl same ↦ same ∙ open_silent past last.ask.access last.going
        | inr new ↦ absurd (quiet.no_commit last.ask.access (answer.Reply new.1.0) new.1.1 last.child)
      ]

      still : given_to (e ∷ past) (asks past m) ≡ given_to past (asks past m)
      still = elim (last_open setting past m legal.0) [
        | inl all ↦ given_still e past (asks past m) all
        | inr last ↦
            ap (given_to (e ∷ past)) last.parts
            ∙ given_open (e ∷ past) last.before last.ask (stays_silent last)
            ∙ given_still e past last.before last.ended
            ∙ sym (given_open past last.before last.ask (open_silent past last.ask.access last.going))
            ∙ ap (given_to past) (sym last.parts)
      ]

  given_more : served past m ≡ given_to past (asks past m) → served (e ∷ past) m ≡ given_to (e ∷ past) (asks (e ∷ past) m)
  given_more before = elim (asks_or_not m e.event) [
    | inl new ↦ given_asks new before
    | inr none ↦ elim (delivers_or_not setting past e m k legal pos has manager) [
      | inl d ↦ given_delivers none d (delivers_last d) before
      | inr quiet ↦ given_quiet none quiet before
    ]
  ]

pub served_asked : (setting : Setting) (past : Past) (m : Name) (k : Kind) → Legal setting past → 0 < length m → HasKind past m k → IsManager k → served past m ≡ given_to past (asks past m)
served_asked setting [] m k legal pos has manager = refl
served_asked setting (e ∷ past) m k legal pos has manager =
    let had = kind_before e past m k has in
    given_more setting past e m k legal pos had manager (served_asked setting past m k legal.0 pos had manager)
