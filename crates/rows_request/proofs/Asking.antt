-- A manager that has just started may ask the one copy, through an access that has just started; and then no grant of
-- it stands but that copy's.
use Rattle.std.proofs.Common.{◌≡◌, ℕ, ◌+◌, ◌<◌, Bool, [], ◌∷◌, ◌++◌, length, refl, sym, ap, ◌∙◌, subst, arith}
use Rattle.std.specs.Prelude.{Option, None, Some, MatchOption, IsTrue, find, is_some, is_none, if◌then◌else◌}
use Rattle.std.specs.Option.{option_or, option_map}
use Rattle.qc_config.specs.declared.tuple.Op.TheVariants.{Get}
use Rattle.qc_names.specs.Name as name
use Rattle.qc_event.specs.declared.event.Ask.{Ask}
use Rattle.qc_event.specs.declared.event.Event.{Event}
use Rattle.qc_event.specs.declared.event.Event.TheVariants as event
use Rattle.qc_event.specs.declared.event.Kind.TheVariants as kind
use Rattle.qc_event.specs.Base.{Setting}
use Rattle.qc_event.specs.History.{Past, Name, Asked, Begun, same, start, start_in, end, asked, ask_in, asks, granted, is_child}
use Rattle.qc_event.specs.Legal.{Legal}
use Rattle.qc_event.specs.Manager.{stage, AtStage}
use Rattle.qc_event.specs.Requests.{IsNextAsk, MayAsk}
use Rattle.qc_event.specs.Seats.{is_client}
use Rattle.qc_event.specs.Standing.{Started, IsManager}
use Rattle.qc_event.specs.Starts.{Stands}
use Rattle.qc_event.proofs.Absent.{same_itself}
use Rattle.qc_event.proofs.LastNumber.{front_last}
use Rattle.qc_event.proofs.StillTold.{is_stays}
use Rattle.qc_desk.specs.declared.refusal.DeskNo.{DeskNo}
use Rattle.qc_desk.specs.declared.view.View.{View}
use Rattle.qc_desk.specs.Calling.{Entered, EnteredAs}
use Rattle.qc_desk.specs.Entries.{IsOlder, entry}
use Rattle.qc_desk.specs.Refusing.{against_nothing, against_child, against_access}
use Rattle.qc_desk.specs.Own.{IsMine, IsOwnAccess, MayAskOwn}
use Rattle.qc_desk.specs.Rules.{IsClient}
use Rattle.qc_desk.proofs.Calls as calls
use Rattle.qc_desk.proofs.Seers.{older_trans}
use Rattle.qc_desk.proofs.NewChild.{IsNext, IsChild, child_of, begun, is_child_of, long, still_open, not_asked, no_asks, same_asks, granted_none}
use Rattle.rows_request.specs.OneCopy.{IsRequest}
use Rattle.rows_request.proofs.OwnAccess.{own_asked}
use Rattle.rows_request.proofs.OneCopy.{at_first}
use Rattle.rows_request.proofs.OneCopy as one_copy
use Rattle.qc_desk.proofs.AskedTops.{IsTop, entered_as_later, entered_later, may_be_ready, top_started}

-- THE REQUEST

module _ (setting : Setting) (seat : ℕ) (p m a : Name) (rec : ℕ) (v w x : View)
    (manager : IsChild setting seat p (kind.Read rec) v w m) (access : IsChild setting seat m kind.Access w x a) where
  mine_then : IsMine w.seen seat m
  mine_then = subst (λ o. MatchOption o ⊥ (λ (b : Begun). IsManager b.kind × (b.seat ≡ seat))) (sym (begun setting seat p (kind.Read rec) v w m manager)) (tt, refl)

  older : x.seen ≡ (entry seat (event.Start a kind.Access) ∷ access.since.0) ++ w.seen
  older = access.seen ∙ ap (λ past. entry seat (event.Start a kind.Access) ∷ past) access.since.1

  no_asks_still : asks x.seen m ≡ []
  no_asks_still =
      same_asks setting seat m kind.Access w x a access mine_then
      ∙ no_asks setting seat p (kind.Read rec) v w m manager

  begun_still : start x.seen m ≡ Some (record { seat = seat; kind = kind.Read rec })
  begun_still = ap (λ past. start past m) older ∙ is_stays (λ e. start_in m e.seat e.event) (entry seat (event.Start a kind.Access) ∷ access.since.0) w.seen (record { seat = seat; kind = kind.Read rec }) (begun setting seat p (kind.Read rec) v w m manager)

  pub may_ask : (ask : Ask) → ask.access ≡ a → IsTrue (is_client seat) → (asks x.seen m ≡ [] → AtStage setting x.seen m (kind.Read rec) (IsNextAsk x.seen m (kind.Read rec) ask)) → MayAskOwn setting x.seen seat m ask
  may_ask ask is client stage = record {
    by_client = client;
    child = ap (is_child m) is ∙ is_child_of setting seat m kind.Access w x a access;
    mine = subst (λ o. MatchOption o ⊥ (λ (b : Begun). IsManager b.kind × (b.seat ≡ seat))) (sym begun_still) (tt, refl);
    started = subst (λ o. MatchOption o ⊥ (λ (b : Begun). (b.seat ≡ seat) × (b.kind ≡ kind.Access))) (sym here) (refl, refl);
    is_open = record { started = ap is_some here; not_ended = ap (end x.seen) is ∙ still_open setting seat m kind.Access w x a access };
    not_asked = ap (asked x.seen) is ∙ not_asked setting seat m kind.Access w x a access;
    nothing_open = ap (find (λ (r : Ask). is_none (end x.seen r.access))) no_asks_still;
    of_stage = subst (λ o. MatchOption o ⊥ (λ (b : Begun). AtStage setting x.seen m b.kind (IsNextAsk x.seen m b.kind ask))) (sym begun_still) (stage no_asks_still);
  }
    where
      here : start x.seen ask.access ≡ Some (record { seat = seat; kind = kind.Access })
      here = ap (start x.seen) is ∙ begun setting seat m kind.Access w x a access

-- WHAT WAS ASKED

module _ (setting : Setting) (against : Past → Option DeskNo) (v w : View) (ask : Ask) (asks : Entered against (event.Ask ask) v w) (legal : Legal setting w.seen) where
  abbrev was : Past
  was = asks.0

  seen : w.seen ≡ entry v.number (event.Ask ask) ∷ was
  seen = ap (λ (x : View). x.seen) asks.3

  here : Legal setting (entry v.number (event.Ask ask) ∷ was)
  here = subst (Legal setting) seen legal

  may : MayAsk setting was v.number ask
  may = here.1

  -- it stands, under the number of the pass
  pub asked_is : asked w.seen ask.access ≡ Some (record { seat = v.number; ask = ask })
  asked_is =
      ap (λ past. asked past ask.access) seen
      ∙ ap (λ o. option_or o (ask_in ask.access v.number (event.Ask ask))) may.not_asked
      ∙ ap (λ (b : Bool). if b then Some (record { seat = v.number; ask = ask }) else None) (same_itself ask.access)

  -- it was granted nothing
  pub granted_nothing : granted w.seen ask.access ≡ None
  granted_nothing = ap (λ past. granted past ask.access) seen ∙ ap (λ o. option_or o None) (granted_none setting was ask.access here.0 may.not_asked)

-- A CLIENT'S WAY TO A REQUEST

pub number_as : (against : Past → Option DeskNo) (Is : Past → Event → Type 0) (v w : View) → EnteredAs against Is v w → w.number ≡ v.number
number_as against Is v w (before, ev, is, since, none, same) = ap (λ (x : View). x.number) same

abbrev pub StartsManager : Name → Name → View → View → Type 0
StartsManager top manager v w = EnteredAs (against_child top) (IsNext top (kind.Read 0) manager) v w

abbrev pub StartsAccess : Name → Name → View → View → Type 0
StartsAccess manager access w x = EnteredAs (against_child manager) (IsNext manager kind.Access access) w x

abbrev pub request : Name → Ask
request access = record { access = access; copy = 0; rec = 0; op = Get }

module _ (s : Setting) (is : s ≡ one_copy.setting) (top manager : Name) (v w : View) (m : StartsManager top manager v w) (legal : Legal s w.seen) (long_top : 0 < length top) where
  pub stands_below : Started w.seen manager (λ p. Stands s w.number p (length manager + 1) kind.Access)
  stands_below =
      let c = child_of s (against_child top) w.number top (kind.Read 0) v w manager m legal (sym (number_as _ _ v w m)) long_top in
      subst (λ o. MatchOption o ⊥ (λ p. Stands s w.number p (length manager + 1) kind.Access)) (sym (begun s w.number top (kind.Read 0) v w manager c)) (tt, refl)

  pub own_request : (access : Name) (x : View) → StartsAccess manager access w x → Legal s x.seen → IsTrue (is_client x.number) → MayAskOwn s x.seen x.number (name.front access) (request access)
  own_request access x a legal_x client =
      let at_w : w.number ≡ x.number = sym (number_as _ _ w x a) in
      let c = child_of s (against_child top) x.number top (kind.Read 0) v w manager m legal (sym (number_as _ _ v w m) ∙ at_w) long_top in
      let d = child_of s (against_child manager) x.number manager kind.Access w x access a legal_x at_w (long s x.number top (kind.Read 0) v w manager c) in
      let front : name.front access ≡ manager = ap name.front d.named ∙ front_last manager d.place in
      subst (λ y. MayAskOwn s x.seen x.number y (request access)) (sym front)
      (may_ask s x.number top manager access 0 v w x c d (request access) refl client
      (λ none. subst (λ t. AtStage t x.seen manager (kind.Read 0) (IsNextAsk x.seen manager (kind.Read 0) (request access))) (sym is) (at_first x.seen manager (request access) refl refl refl none)))

same_number : (epoch : ℕ) (top manager access : Name) (u v w x : View) → EnteredAs against_nothing (IsTop epoch 0 0 top) u v → StartsManager top manager v w → StartsAccess manager access w x → x.number ≡ u.number
same_number epoch top manager access u v w x t m a =
    number_as (against_child manager) (IsNext manager kind.Access access) w x a ∙ number_as (against_child top) (IsNext top (kind.Read 0) manager) v w m ∙ number_as against_nothing (IsTop epoch 0 0 top) u v t

-- an access that has just started may ask
pub may_request : (s : Setting) (is : s ≡ one_copy.setting) (epoch : ℕ) (top manager access : Name) (u v w x : View) → EnteredAs against_nothing (IsTop epoch 0 0 top) u v → StartsManager top manager v w → StartsAccess manager access w x
    → Legal s v.seen → Legal s w.seen → Legal s x.seen → IsClient u → MayAskOwn s x.seen x.number (name.front access) (request access)
may_request s is epoch top manager access u v w x t m a legal_v legal_w legal_x client =
    let one = (may_be_ready s epoch 0 0 u v top t legal_v).0 in
    own_request s is top manager v w m legal_w (omega (arith, one)) access x a legal_x
    (subst (λ n. IsTrue (is_client n)) (sym (same_number epoch top manager access u v w x t m a)) (calls.client u client))

-- what stands then
pub is_request : (s : Setting) (epoch : ℕ) (top manager access : Name) (u v w x y : View) → EnteredAs against_nothing (IsTop epoch 0 0 top) u v → StartsManager top manager v w → StartsAccess manager access w x
    → Entered (against_access access) (event.Ask (request access)) x y → Legal s v.seen → MayAskOwn s x.seen x.number (name.front access) (request access) → Legal s y.seen → IsRequest y.seen u.number top (request access) × IsOlder u.seen y.seen
is_request s epoch top manager access u v w x y t m a q legal_v may legal_y = (
  record {
    begun = ap (λ p. start p top) later.1 ∙ is_stays (λ e. start_in top e.seat e.event) later.0 v.seen (record { seat = u.number; kind = kind.User 0 0 }) (top_started s epoch 0 0 u v top t legal_v);
    asked = ap (option_map (λ (a : Asked). a.ask)) asked_here;
    to_copy = refl;
    of_record = refl;
    ungranted = granted_nothing s (against_access access) x y (request access) q legal_y;
    own = subst (λ n. IsOwnAccess y.seen n access) number (own_asked s (against_access access) x y (request access) (name.front access) q legal_y may);
    asked_here = subst (λ o. MatchOption o ⊥ (λ (a : Asked). a.seat ≡ u.number)) (sym asked_here) number;
  },
  older_trans u.seen v.seen y.seen (entered_as_later against_nothing (IsTop epoch 0 0 top) u v t) later,
)
  where
    number : x.number ≡ u.number
    number = same_number epoch top manager access u v w x t m a

    later : IsOlder v.seen y.seen
    later = older_trans v.seen w.seen y.seen (entered_as_later (against_child top) (IsNext top (kind.Read 0) manager) v w m)
        (older_trans w.seen x.seen y.seen (entered_as_later (against_child manager) (IsNext manager kind.Access access) w x a) (entered_later (against_access access) (event.Ask (request access)) x y q))

    asked_here : asked y.seen access ≡ Some (record { seat = x.number; ask = request access })
    asked_here = asked_is s (against_access access) x y (request access) q legal_y
