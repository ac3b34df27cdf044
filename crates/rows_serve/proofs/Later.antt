-- What a client knows of its requests, once its pass has seen more.
use Rattle.std.proofs.Common.{◌≡◌, ℕ, ◌<◌, ◌≤◌, true, ◌++◌, sym, ap, ◌∙◌, subst}
use Rattle.std.specs.Prelude.{Option, None, Some, IfSome}
use Rattle.qc_config.specs.Val.{Datum}
use Rattle.qc_config.specs.declared.tuple.Tuple.{Tuple}
use Rattle.qc_event.specs.Grants.{grant_with}
use Rattle.qc_event.specs.declared.event.Ask.{Ask}
use Rattle.qc_event.specs.declared.event.Kind.TheVariants as kind
use Rattle.qc_event.specs.Base.{Setting}
use Rattle.qc_event.specs.History.{Past, Name, Asked, granted, grant_in, is_child}
use Rattle.qc_event.specs.Legal.{Legal}
use Rattle.qc_event.specs.Standing.{IsUser, IsManager}
use Rattle.qc_event.proofs.Later.{start_still, started_still}
use Rattle.qc_event.proofs.StillTold.{begun_still, is_stays, match_stays}
use Rattle.qc_desk.specs.declared.view.View.{View}
use Rattle.qc_desk.specs.Calling.{Shown, SeesMore}
use Rattle.qc_desk.specs.Known.{IsKnown}
use Rattle.qc_desk.specs.Entries.{AreOthers, IsOlder, IsSince, entries_of}
use Rattle.qc_desk.specs.Own.{IsMine, IsOwnAccess}
use Rattle.qc_desk.specs.Rules.{IsClient}
use Rattle.qc_desk.proofs.Consulting.{asked_later}
use Rattle.qc_desk.proofs.Entering.{started_later}
use Rattle.qc_desk.proofs.OwnSince as own
use Rattle.qc_desk.proofs.Since as since
use Rattle.qc_desk.specs.Answers.{IsGranted}
use Rattle.rows_serve.specs.declared.client.Client.{Client}
use Rattle.rows_serve.specs.declared.client.Request.{Request}
use Rattle.rows_serve.specs.declared.client.Writer.{Writer}
use Rattle.rows_serve.specs.Requests.{RequestStands, IsFirst, IsFirstOf, IsPut, IsPutOf, Knows}
use Rattle.rows_serve.proofs.Children as children

-- what is told of a value that is there
pub of_some : {X : Type 0} (o : Option X) (P : X → Type 0) (x : X) → IfSome o P → o ≡ Some x → P x
of_some o P x h is = subst (λ y. IfSome y P) is h

granted_later : (before now : Past) (ask : Ask) (o : Option Tuple) → IsOlder before now → IfSome o (λ t. IsGranted 0 before (grant_with ask t)) → IfSome o (λ t. IsGranted 0 now (grant_with ask t))
granted_later before now ask None older h = h
granted_later before now ask (Some t) older h =
    ap (λ p. granted p ask.access) older.1 ∙ is_stays (λ e. grant_in ask.access e.event) older.0 before (record { copy = 0; grant = grant_with ask t }) h

pub stands_later : (before now : Past) (r : Request) → IsOlder before now → RequestStands before r → RequestStands now r
stands_later before now r older h = record {
  begun = started_later before now r.user (λ b. IsUser b.kind) older h.begun;
  asked = asked_later before now r.ask older h.asked;
  to_copy = h.to_copy;
  granted = granted_later before now r.ask r.granted older h.granted;
}

pub all_later : (before now : Past) (o : Option Request) → IsOlder before now → IfSome o (RequestStands before) → IfSome o (RequestStands now)
all_later before now None older h = h
all_later before now (Some r) older h = stands_later before now r older h

-- WHAT OTHERS ENTERED

-- its own entries are as they were, so what is new is of others
pub of_others : (v w : View) → IsClient v → (v.live ≡ true → v.mine ≡ entries_of v.number v.seen) → (w.live ≡ true → w.mine ≡ entries_of w.number w.seen) → SeesMore v w → IsSince v.number v.seen w.seen
of_others v w client before now s =
    since.since v.number v.seen w.seen s.older
    (ap (λ n. entries_of n w.seen) (sym s.number) ∙ sym (now (s.live ∙ client.0)) ∙ s.mine ∙ before client.0)

module _ (setting : Setting) (past newer : Past) (seat : ℕ) (ask : Ask) (manager : Name) (value : Datum) (legal : Legal setting (newer ++ past)) (all : AreOthers seat newer) where
  -- its access stays open
  own_then : IsMine past seat manager → is_child manager ask.access ≡ true → IsOwnAccess past seat ask.access → IsOwnAccess (newer ++ past) seat ask.access
  own_then mine child o = record {
    by_client = o.by_client;
    manager = o.manager;
    child = o.child;
    mine = started_still newer past o.manager (λ b. IsManager b.kind × (b.seat ≡ seat)) o.mine;
    started = started_still newer past ask.access (λ b. (b.seat ≡ seat) × (b.kind ≡ kind.Access)) o.started;
    is_open = record {
      started = begun_still newer past ask.access o.is_open.started;
      not_ended = own.access_end_same setting past seat manager mine newer legal all ask.access child ∙ o.is_open.not_ended;
    };
  }

  first_then : IsFirst past seat ask manager value → IsFirst (newer ++ past) seat ask manager value
  first_then f =
      let mine = children.mine setting seat manager ask.rec value past f.begun in record {
        begun = start_still newer past manager _ f.begun;
        within = f.within;
        gets = f.gets;
        to_copy = f.to_copy;
        one = own.asks_same setting past seat manager mine newer legal all ∙ f.one;
        child = f.child;
        own = own_then mine f.child f.own;
        asked_here = match_stays _ newer past (λ (a : Asked). a.seat ≡ seat) f.asked_here;
      }

  put_then : IsPut past seat ask manager value → IsPut (newer ++ past) seat ask manager value
  put_then f =
      let mine = children.mine setting seat manager ask.rec value past f.begun in record {
        first = f.first;
        tuple = f.tuple;
        begun = start_still newer past manager _ f.begun;
        within = f.within;
        gets = f.gets;
        from_copy = f.from_copy;
        first_child = f.first_child;
        told = own.access_end_same setting past seat manager mine newer legal all f.first.access f.first_child ∙ f.told;
        may = f.may;
        puts = f.puts;
        to_copy = f.to_copy;
        two = own.asks_same setting past seat manager mine newer legal all ∙ f.two;
        child = f.child;
        own = own_then mine f.child f.own;
        asked_here = match_stays _ newer past (λ (a : Asked). a.seat ≡ seat) f.asked_here;
      }

module _ (setting : Setting) (past now : Past) (seat : ℕ) (ask : Ask) (legal : Legal setting now) (s : IsSince seat past now) where
  pub first_of_since : (o : Option Writer) → IfSome o (λ w. IsFirst past seat ask w.manager w.value) → IfSome o (λ w. IsFirst now seat ask w.manager w.value)
  first_of_since None h = h
  first_of_since (Some w) h = subst (λ p. IsFirst p seat ask w.manager w.value) (sym s.1) (first_then setting past s.0 seat ask w.manager w.value (subst (Legal setting) s.1 legal) s.2 h)

  pub put_of_since : (o : Option Writer) → IfSome o (λ w. IsPut past seat ask w.manager w.value) → IfSome o (λ w. IsPut now seat ask w.manager w.value)
  put_of_since None h = h
  put_of_since (Some w) h = subst (λ p. IsPut p seat ask w.manager w.value) (sym s.1) (put_then setting past s.0 seat ask w.manager w.value (subst (Legal setting) s.1 legal) s.2 h)

-- WHAT A CLIENT KNOWS

-- what is known of its request
abbrev IsNow : Past → ℕ → Request → Type 0
IsNow past seat r = RequestStands past r × IsFirstOf past seat r × IsPutOf past seat r

all_three : (past : Past) (seat : ℕ) (o : Option Request) → IfSome o (RequestStands past) → IfSome o (IsFirstOf past seat) → IfSome o (IsPutOf past seat) → IfSome o (IsNow past seat)
all_three past seat None stands first put = stands
all_three past seat (Some r) stands first put = (stands, first, put)

pub knows : (past : Past) (seat : ℕ) (now before : Option Request) → IfSome now (RequestStands past) → IfSome now (IsFirstOf past seat) → IfSome now (IsPutOf past seat) → IfSome before (RequestStands past) → Knows past seat (record { now = now; before = before })
knows past seat now before stands first put earlier = record { now = all_three past seat now stands first put; before = earlier }

pub stands_now : (past : Past) (seat : ℕ) (client : Client) → Knows past seat client → IfSome client.now (RequestStands past)
stands_now past seat client k = by_now client.now k.now
  where
    by_now : (o : Option Request) → IfSome o (IsNow past seat) → IfSome o (RequestStands past)
    by_now None h = h
    by_now (Some r) h = h.0

-- it knows them still where others entered something since
pub knows_since : (setting : Setting) (past now : Past) (seat : ℕ) (client : Client) → Legal setting now → IsSince seat past now → Knows past seat client → Knows now seat client
knows_since setting past now seat client legal s k = record { now = by_now client.now k.now; before = all_later past now client.before older k.before }
  where
    older : IsOlder past now
    older = (s.0, s.1)

    by_now : (o : Option Request) → IfSome o (IsNow past seat) → IfSome o (IsNow now seat)
    by_now None h = h
    by_now (Some r) h = (stands_later past now r older h.0, first_of_since setting past now seat r.ask legal s r.writer h.1, put_of_since setting past now seat r.ask legal s r.putter h.2)

-- WHAT A PASS IS SHOWN

pub client_shown : (v w : View) → IsClient v → Shown v w → IsClient w
client_shown v w client shown = (ap (λ (x : View). x.live) shown.1 ∙ client.0, λ some. subst (λ n. 17 < n) (sym (number v w shown)) (client.1 (subst (λ n. 1 ≤ n) (number v w shown) some)))
  where
    number : (v w : View) → Shown v w → w.number ≡ v.number
    number v w shown = ap (λ (x : View). x.number) shown.1

pub knows_shown : (setting : Setting) (v w : View) (client : Client) → IsClient v → Legal setting w.seen → Shown v w → Knows v.seen v.number client → Knows w.seen w.number client
knows_shown setting v w client here legal shown k =
    subst (λ n. Knows w.seen n client) (sym (ap (λ (x : View). x.number) shown.1)) (knows_since setting v.seen w.seen v.number client legal (shown.2 here.0) k)

pub knows_more : (setting : Setting) (v w : View) (client : Client) → IsClient v → IsKnown setting v → IsKnown setting w → SeesMore v w → Knows v.seen v.number client → Knows w.seen v.number client
knows_more setting v w client here before now sees k = knows_since setting v.seen w.seen v.number client now.legal (of_others v w here before.mine now.mine sees) k
