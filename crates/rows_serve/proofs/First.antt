-- A client's way to the first request of a manager that writes, and on to its second.
use Rattle.std.proofs.Common.{◌≡◌, ℕ, ◌+◌, ◌<◌, Bool, true, List, [], ◌∷◌, ◌++◌, length, refl, sym, ap, ap₂, ◌∙◌, subst, append-nil}
use Rattle.std.specs.Prelude.{Option, None, Some, IsTrue, MatchOption, is_some, nat_le, option_to_list, if◌then◌else◌}
use Rattle.std.specs.Option.{option_or, option_map}
use Rattle.qc_names.specs.Name as name
use Rattle.qc_config.specs.Val.{Datum}
use Rattle.qc_config.specs.declared.tuple.Tuple.{Tuple}
use Rattle.qc_config.specs.declared.tuple.Op.TheVariants.{PutData}
use Rattle.qc_event.specs.Grants.{grant_with}
use Rattle.qc_event.specs.declared.event.Answer.TheVariants as answer
use Rattle.qc_event.specs.declared.event.Answer.TheVariants.{Reply}
use Rattle.qc_event.specs.declared.event.Ask.{Ask}
use Rattle.qc_event.specs.declared.event.Event.TheVariants as event
use Rattle.qc_event.specs.declared.event.How.TheVariants.{Commit}
use Rattle.qc_event.specs.declared.event.Kind.TheVariants as kind
use Rattle.qc_event.specs.declared.table.Table.{Table}
use Rattle.qc_event.specs.Base.{Setting}
use Rattle.qc_event.specs.History.{Past, Name, Begun, Asked, is_child as is_child_of, start, end, end_in, asked, ask_in, asks, granted}
use Rattle.qc_event.specs.Legal.{Legal}
use Rattle.qc_event.specs.Requests.{MayAsk}
use Rattle.qc_event.specs.Seats.{is_client}
use Rattle.qc_event.specs.Standing.{IsManager, IsUser, Started}
use Rattle.qc_event.specs.Starts.{Stands as StandsThere}
use Rattle.qc_event.specs.Tables.{setting_of}
use Rattle.qc_event.proofs.Absent.{same_itself}
use Rattle.qc_event.proofs.Later.{start_still}
use Rattle.qc_event.proofs.Lawful.{lawful, nonroot}
use Rattle.qc_event.proofs.LegalOrderly.{legal_orderly}
use Rattle.qc_event.proofs.Options.{match_some, match_wider}
use Rattle.qc_event.proofs.StillTold.{is_stays}
use Rattle.qc_desk.specs.declared.refusal.DeskNo.{DeskNo}
use Rattle.qc_desk.specs.declared.view.View.{View}
use Rattle.qc_desk.specs.Calling.{Entered, StartsChild}
use Rattle.qc_desk.specs.Consulting.{HasAsked}
use Rattle.qc_desk.specs.Entries.{IsOlder, entry}
use Rattle.qc_desk.specs.Own.{CommitsOwn, IsMine, IsOwnAccess, MayAskOwn, MayCommitOwn, MayReplyOwn, MayStartOwn}
use Rattle.qc_desk.specs.Refusing.{against_access, against_child}
use Rattle.qc_desk.proofs.AskedTops.{entered_later}
use Rattle.qc_desk.proofs.Calls as calls
use Rattle.qc_desk.proofs.Entering.{started_later}
use Rattle.qc_desk.proofs.OwnSince.{asks_same, access_end_same}
use Rattle.qc_desk.proofs.Seers.{older_trans}
use Rattle.qc_desk.specs.Rules.{IsClient}
use Rattle.qc_desk.specs.Answers.{IsGranted}
use Rattle.rows_serve.specs.declared.client.Writer.{Writer}
use Rattle.rows_serve.specs.Requests.{IsFirst, IsPut, MayPut, RequestStands}
use Rattle.rows_serve.specs.TwoRecords.{IsOver}
use Rattle.qc_desk.proofs.NewChild as child
use Rattle.rows_serve.proofs.Children as children
use Rattle.rows_serve.proofs.Children.{same_number, later}
use Rattle.rows_serve.proofs.Stages.{getting, putting_ask, at_first, at_put, is_done, waits_for_none, waits_no_more}
use Rattle.rows_serve.proofs.TwoRecords.{is_record}

start_later : (before now : Past) (n : Name) (b : Begun) → IsOlder before now → start before n ≡ Some b → start now n ≡ Some b
start_later before now n b older is = subst (λ p. start p n ≡ Some b) (sym older.1) (start_still older.0 before n b is)

-- what was asked stands, under the number of the pass
pub asked_is : (setting : Setting) (against : Past → Option DeskNo) (x y : View) (ask : Ask) → Entered against (event.Ask ask) x y → Legal setting y.seen → asked y.seen ask.access ≡ Some (record { seat = x.number; ask = ask })
asked_is setting against x y ask (before, since, none, same) legal =
    ap (λ past. asked past ask.access) seen
    ∙ ap (λ o. option_or o (ask_in ask.access x.number (event.Ask ask))) may.not_asked
    ∙ ap (λ (b : Bool). if b then Some (record { seat = x.number; ask = ask }) else None) (same_itself ask.access)
  where
    seen : y.seen ≡ entry x.number (event.Ask ask) ∷ before
    seen = ap (λ (v : View). v.seen) same

    may : MayAsk setting before x.number ask
    may = (subst (Legal setting) seen legal).1

pub has_asked : (setting : Setting) (against : Past → Option DeskNo) (x y : View) (ask : Ask) → Entered against (event.Ask ask) x y → Legal setting y.seen → HasAsked y.seen ask
has_asked setting against x y ask q legal = ap (option_map (λ (a : Asked). a.ask)) (asked_is setting against x y ask q legal)

-- an access that has just asked is open, under the number of the pass that started it and its manager
own_asked : (setting : Setting) (manager : Name) (ask : Ask) (w x y : View) → IsTrue (is_client x.number) → IsMine x.seen x.number manager → child.IsChild setting x.number manager kind.Access w x ask.access → Entered (against_access ask.access) (event.Ask ask) x y → Legal setting y.seen
    → IsOwnAccess y.seen x.number ask.access
own_asked setting manager ask w x y client mine c q legal = record {
  by_client = client;
  manager = manager;
  child = is_child;
  mine = started_later x.seen y.seen manager (λ b. IsManager b.kind × (b.seat ≡ x.number)) older mine;
  started = match_some (start y.seen ask.access) (λ (b : Begun). (b.seat ≡ x.number) × (b.kind ≡ kind.Access)) _ access_y (refl, refl);
  is_open = record { started = ap is_some access_y; not_ended = open_y };
}
  where
    older : IsOlder x.seen y.seen
    older = entered_later (against_access ask.access) (event.Ask ask) x y q

    seen : y.seen ≡ entry x.number (event.Ask ask) ∷ q.0
    seen = ap (λ (z : View). z.seen) q.3

    is_child : is_child_of manager ask.access ≡ true
    is_child = child.is_child_of setting x.number manager kind.Access w x ask.access c

    access_y : start y.seen ask.access ≡ Some (record { seat = x.number; kind = kind.Access })
    access_y = start_later x.seen y.seen ask.access _ older (child.begun setting x.number manager kind.Access w x ask.access c)

    open_y : end y.seen ask.access ≡ None
    open_y =
        ap (λ past. end past ask.access) seen
        ∙ ap (λ how. option_or how None) (ap (λ past. end past ask.access) q.1.1
        ∙ access_end_same setting x.seen x.number manager mine q.1.0 (subst (Legal setting) q.1.1 (subst (Legal setting) seen legal).0) q.1.2 ask.access is_child
        ∙ child.still_open setting x.number manager kind.Access w x ask.access c)

-- what a manager asked with the request that was entered
asks_more : (setting : Setting) (manager : Name) (ask : Ask) (x y : View) → IsMine x.seen x.number manager → is_child_of manager ask.access ≡ true → (q : Entered (against_access ask.access) (event.Ask ask) x y) → Legal setting y.seen → asks y.seen manager ≡ asks x.seen manager ++ ask ∷ []
asks_more setting manager ask x y mine is_child q legal =
    ap (λ past. asks past manager) seen
    ∙ ap₂ (λ (rs : List Ask) (b : Bool). rs ++ option_to_list (if b then Some ask else None))
    (ap (λ past. asks past manager) q.1.1 ∙ asks_same setting x.seen x.number manager mine q.1.0 (subst (Legal setting) q.1.1 (subst (Legal setting) seen legal).0) q.1.2)
    is_child
  where
    seen : y.seen ≡ entry x.number (event.Ask ask) ∷ q.0
    seen = ap (λ (z : View). z.seen) q.3

module _ (over : Table) (base : List (List Tuple)) (o : IsOver over base) where
  abbrev s : Setting
  s = setting_of over base

  -- THE FIRST REQUEST

  pub manager_stands : (rec : ℕ) (value : Datum) (user : Name) (v : View) → rec < 2 → Started v.seen user (λ b. IsUser b.kind) → Started v.seen user (λ p. StandsThere s v.number p (length user + 1) (kind.Write rec value))
  manager_stands rec value user v less began =
      match_wider (start v.seen user) (λ b. IsUser b.kind) (λ p. StandsThere s v.number p (length user + 1) (kind.Write rec value)) (λ b is. (is, is_record over base rec o less)) began

  -- a child may stand below a user transaction that is not too deep, and is one then
  pub child_stands : (user : Name) (v : View) → Started v.seen user (λ b. IsUser b.kind) → IsTrue (nat_le (length user + 1) 16) → MayStartOwn s v user (kind.User 0 0)
  child_stands user v began less = match_wider (start v.seen user) (λ b. IsUser b.kind) (λ p. StandsThere s v.number p (length user + 1) (kind.User 0 0)) (λ b is. (is, less)) began

  pub child_begun : (user kid : Name) (v w : View) → StartsChild user (kind.User 0 0) kid v w → Legal s w.seen → 0 < length user → Started w.seen kid (λ b. IsUser b.kind)
  child_begun user kid v w m legal long =
      match_some (start w.seen kid) (λ b. IsUser b.kind) _ (child.begun s v.number user (kind.User 0 0) v w kid (child.child_of s (against_child user) v.number user (kind.User 0 0) v w kid m legal refl long)) tt

  module _ (rec : ℕ) (value : Datum) (top manager : Name) (v w : View) (m : StartsChild top (kind.Write rec value) manager v w) (legal_w : Legal s w.seen) (long : 0 < length top) where
    begun_by : (seat : ℕ) → v.number ≡ seat → start w.seen manager ≡ Some (record { seat = seat; kind = kind.Write rec value })
    begun_by seat number = child.begun s seat top (kind.Write rec value) v w manager (child.child_of s (against_child top) seat top (kind.Write rec value) v w manager m legal_w number long)

    pub access_stands : Started w.seen manager (λ p. StandsThere s w.number p (length manager + 1) kind.Access)
    access_stands = children.may_stand s w.number manager rec value w.seen (begun_by w.number (sym (same_number top (kind.Write rec value) manager v w m)))

    module _ (access : Name) (x : View) (a : StartsChild manager kind.Access access w x) (legal_x : Legal s x.seen) (client : IsTrue (is_client x.number)) (less : rec < 2) where
      w_number : w.number ≡ x.number
      w_number = sym (same_number manager kind.Access access w x a)

      v_number : v.number ≡ x.number
      v_number = sym (same_number top (kind.Write rec value) manager v w m) ∙ w_number

      long_m : 0 < length manager
      long_m = child.long s x.number top (kind.Write rec value) v w manager (child.child_of s (against_child top) x.number top (kind.Write rec value) v w manager m legal_w v_number long)

      mine_w : IsMine w.seen x.number manager
      mine_w = children.mine s x.number manager rec value w.seen (begun_by x.number v_number)

      begun_x : start x.seen manager ≡ Some (record { seat = x.number; kind = kind.Write rec value })
      begun_x = start_later w.seen x.seen manager _ (later manager kind.Access access w x a) (begun_by x.number v_number)

      mine_x : IsMine x.seen x.number manager
      mine_x = children.mine s x.number manager rec value x.seen begun_x

      none : asks x.seen manager ≡ []
      none =
          child.same_asks s x.number manager kind.Access w x access (child.child_of s (against_child manager) x.number manager kind.Access w x access a legal_x w_number long_m) mine_w
          ∙ child.no_asks s x.number top (kind.Write rec value) v w manager (child.child_of s (against_child top) x.number top (kind.Write rec value) v w manager m legal_w v_number long)

      pub own_request : MayAskOwn s x.seen x.number (name.front access) (getting access rec)
      own_request = children.may_ask s x.number manager rec value x.seen begun_x (getting access rec) client
          (child.is_child_of s x.number manager kind.Access w x access (child.child_of s (against_child manager) x.number manager kind.Access w x access a legal_x w_number long_m))
          (child.begun s x.number manager kind.Access w x access (child.child_of s (against_child manager) x.number manager kind.Access w x access a legal_x w_number long_m))
          (child.still_open s x.number manager kind.Access w x access (child.child_of s (against_child manager) x.number manager kind.Access w x access a legal_x w_number long_m))
          (child.not_asked s x.number manager kind.Access w x access (child.child_of s (against_child manager) x.number manager kind.Access w x access a legal_x w_number long_m))
          (waits_for_none x.seen manager none)
          (at_first over base rec value o less x.seen manager (getting access rec) refl refl refl none)

      pub is_first : (y : View) → Entered (against_access access) (event.Ask (getting access rec)) x y → Legal s y.seen → IsFirst y.seen x.number (getting access rec) manager value
      is_first y q legal_y = record {
        begun = start_later x.seen y.seen manager _ (entered_later (against_access access) (event.Ask (getting access rec)) x y q) begun_x;
        within = less;
        gets = refl;
        to_copy = refl;
        one = asks_more s manager (getting access rec) x y mine_x is_child q legal_y ∙ ap (λ (rs : List Ask). rs ++ getting access rec ∷ []) none;
        child = is_child;
        own = own_asked s manager (getting access rec) w x y client mine_x is_new q legal_y;
        asked_here = match_some (asked y.seen access) (λ (z : Asked). z.seat ≡ x.number) _ (asked_is s (against_access access) x y (getting access rec) q legal_y) refl;
      }
        where
          is_new : child.IsChild s x.number manager kind.Access w x access
          is_new = child.child_of s (against_child manager) x.number manager kind.Access w x access a legal_x w_number long_m

          is_child : is_child_of manager access ≡ true
          is_child = child.is_child_of s x.number manager kind.Access w x access is_new

  -- THE WAY OF A NEW MANAGER

  module _ (rec : ℕ) (value : Datum) (user manager access : Name) (v w x : View) (m : StartsChild user (kind.Write rec value) manager v w) (a : StartsChild manager kind.Access access w x) where
    set_number : x.number ≡ v.number
    set_number = same_number manager kind.Access access w x a ∙ same_number user (kind.Write rec value) manager v w m

    pub set_client : IsClient v → IsTrue (is_client x.number)
    set_client client = subst (λ n. IsTrue (is_client n)) (sym set_number) (calls.client v client)

    module _ (y : View) (q : Entered (against_access access) (event.Ask (getting access rec)) x y) where
      pub set_later : IsOlder v.seen y.seen
      set_later =
          older_trans v.seen w.seen y.seen (later user (kind.Write rec value) manager v w m)
          (older_trans w.seen x.seen y.seen (later manager kind.Access access w x a) (entered_later (against_access access) (event.Ask (getting access rec)) x y q))

      pub set_stands : (writer putter : Option Writer) → Started v.seen user (λ b. IsUser b.kind) → Legal s y.seen → RequestStands y.seen (record { user = user; ask = getting access rec; writer = writer; putter = putter; granted = None })
      set_stands writer putter began legal_y = record {
        begun = started_later v.seen y.seen user (λ b. IsUser b.kind) set_later began;
        asked = has_asked s (against_access access) x y (getting access rec) q legal_y;
        to_copy = refl;
        granted = tt;
      }

      pub set_first : IsClient v → rec < 2 → 0 < length user → Legal s w.seen → Legal s x.seen → Legal s y.seen → IsFirst y.seen v.number (getting access rec) manager value
      set_first client less long legal_w legal_x legal_y =
          subst (λ n. IsFirst y.seen n (getting access rec) manager value) set_number
          (is_first rec value user manager v w m legal_w long access x a legal_x (set_client client) less y q legal_y)

  -- THE REPLY

  -- what was granted may be taken
  pub may_take : (past : Past) (seat : ℕ) (ask : Ask) (t : Tuple) → MatchOption (asked past ask.access) ⊥ (λ a. a.seat ≡ seat) → IsGranted 0 past (grant_with ask t) → MayReplyOwn past seat ask.access t
  may_take past seat ask t here given = record {
    asked_here = here;
    reply = match_some (granted past ask.access) (λ g. g.grant.tuple ≡ t) _ given refl;
  }

  -- a manager's access takes its reply
  module _ (ask : Ask) (manager : Name) (rec : ℕ) (value : Datum) (t : Tuple) (v w : View) (begun_v : start v.seen manager ≡ Some (record { seat = v.number; kind = kind.Write rec value })) (child_v : is_child_of manager ask.access ≡ true) (open_v : end v.seen ask.access ≡ None)
      (e : Entered (against_access ask.access) (event.End ask.access (Commit (Reply t))) v w) (legal_w : Legal s w.seen) where
    number : w.number ≡ v.number
    number = ap (λ (x : View). x.number) e.3

    seen_w : w.seen ≡ entry v.number (event.End ask.access (Commit (Reply t))) ∷ e.0
    seen_w = ap (λ (x : View). x.seen) e.3

    legal_since : Legal s (e.1.0 ++ v.seen)
    legal_since = subst (Legal s) e.1.1 (subst (Legal s) seen_w legal_w).0

    mine_v : IsMine v.seen v.number manager
    mine_v = children.mine s v.number manager rec value v.seen begun_v

    pub begun_w : start w.seen manager ≡ Some (record { seat = w.number; kind = kind.Write rec value })
    begun_w = start_later v.seen w.seen manager _ (entered_later (against_access ask.access) (event.End ask.access (Commit (Reply t))) v w e) begun_v
        ∙ ap (λ (n : ℕ). Some (record { seat = n; kind = kind.Write rec value })) (sym number)

    pub asks_w : asks w.seen manager ≡ asks v.seen manager
    asks_w = ap (λ past. asks past manager) seen_w ∙ append-nil (asks e.0 manager) ∙ ap (λ past. asks past manager) e.1.1 ∙ asks_same s v.seen v.number manager mine_v e.1.0 legal_since e.1.2

    pub ended_w : end w.seen ask.access ≡ Some (Commit (Reply t))
    ended_w =
        ap (λ past. end past ask.access) seen_w
        ∙ ap (λ how. option_or how (end_in ask.access (event.End ask.access (Commit (Reply t))))) (ap (λ past. end past ask.access) e.1.1
        ∙ access_end_same s v.seen v.number manager mine_v e.1.0 legal_since e.1.2 ask.access child_v ∙ open_v)
        ∙ ap (λ (b : Bool). if b then Some (Commit (Reply t)) else None) (same_itself ask.access)

  -- THE SECOND REQUEST

  module _ (ask : Ask) (manager : Name) (value : Datum) (t : Tuple) (v w : View) (f : IsFirst v.seen v.number ask manager value) (e : Entered (against_access ask.access) (event.End ask.access (Commit (Reply t))) v w) (legal_w : Legal s w.seen) where
    first_begun : start w.seen manager ≡ Some (record { seat = w.number; kind = kind.Write ask.rec value })
    first_begun = begun_w ask manager ask.rec value t v w f.begun f.child f.own.is_open.not_ended e legal_w

    one_w : asks w.seen manager ≡ ask ∷ []
    one_w = asks_w ask manager ask.rec value t v w f.begun f.child f.own.is_open.not_ended e legal_w ∙ f.one

    first_ended : end w.seen ask.access ≡ Some (Commit (Reply t))
    first_ended = ended_w ask manager ask.rec value t v w f.begun f.child f.own.is_open.not_ended e legal_w

    pub next_stands : Started w.seen manager (λ p. StandsThere s w.number p (length manager + 1) kind.Access)
    next_stands = children.may_stand s w.number manager ask.rec value w.seen first_begun

    -- that it puts the value
    abbrev puts : Name → Ask
    puts access = record { access = access; copy = 0; rec = ask.rec; op = PutData (t.version + 1) value }

    module _ (access : Name) (x : View) (a : StartsChild manager kind.Access access w x) where
      x_number : w.number ≡ x.number
      x_number = sym (same_number manager kind.Access access w x a)

      v_number_x : v.number ≡ x.number
      v_number_x = sym (ap (λ (y : View). y.number) e.3) ∙ x_number

      pub put_client : IsClient v → IsTrue (is_client x.number)
      put_client client = subst (λ n. IsTrue (is_client n)) v_number_x (calls.client v client)

      begun_w_x : start w.seen manager ≡ Some (record { seat = x.number; kind = kind.Write ask.rec value })
      begun_w_x = first_begun ∙ ap (λ (n : ℕ). Some (record { seat = n; kind = kind.Write ask.rec value })) x_number

      begun_there : start x.seen manager ≡ Some (record { seat = x.number; kind = kind.Write ask.rec value })
      begun_there = start_later w.seen x.seen manager _ (later manager kind.Access access w x a) begun_w_x

      ended_x : end x.seen ask.access ≡ Some (Commit (Reply t))
      ended_x =
          let older = later manager kind.Access access w x a in
          ap (λ past. end past ask.access) older.1 ∙ is_stays (λ z. end_in ask.access z.event) older.0 w.seen (Commit (Reply t)) first_ended

      module _ (legal_x : Legal s x.seen) where
        manager_long : 0 < length manager
        manager_long = nonroot w.seen manager (lawful w.seen (legal_orderly s w.seen legal_w)) (ap is_some first_begun)

        one_x : asks x.seen manager ≡ ask ∷ []
        one_x = child.same_asks s x.number manager kind.Access w x access (child.child_of s (against_child manager) x.number manager kind.Access w x access a legal_x x_number manager_long) (children.mine s x.number manager ask.rec value w.seen begun_w_x) ∙ one_w

        one_get : asks x.seen manager ≡ getting ask.access ask.rec ∷ []
        one_get = one_x ∙ (λ i. record { access = ask.access; copy = f.to_copy i; rec = ask.rec; op = f.gets i } ∷ [])

        pub next_request : IsTrue (is_client x.number) → MayPut t → MayAskOwn s x.seen x.number (name.front access) (puts access)
        next_request client may = children.may_ask s x.number manager ask.rec value x.seen begun_there (puts access) client
            (child.is_child_of s x.number manager kind.Access w x access (child.child_of s (against_child manager) x.number manager kind.Access w x access a legal_x x_number manager_long))
            (child.begun s x.number manager kind.Access w x access (child.child_of s (against_child manager) x.number manager kind.Access w x access a legal_x x_number manager_long))
            (child.still_open s x.number manager kind.Access w x access (child.child_of s (against_child manager) x.number manager kind.Access w x access a legal_x x_number manager_long))
            (child.not_asked s x.number manager kind.Access w x access (child.child_of s (against_child manager) x.number manager kind.Access w x access a legal_x x_number manager_long))
            (waits_no_more x.seen manager ask t one_x ended_x)
            (at_put over base ask.rec value o f.within x.seen manager (puts access) refl refl ask.access ask.rec t may.first may.small refl one_get ended_x)

      module _ (y : View) (q : Entered (against_access access) (event.Ask (puts access)) x y) where
        pub put_later : IsOlder v.seen y.seen
        put_later =
            older_trans v.seen w.seen y.seen (entered_later (against_access ask.access) (event.End ask.access (Commit (Reply t))) v w e)
            (older_trans w.seen x.seen y.seen (later manager kind.Access access w x a) (entered_later (against_access access) (event.Ask (puts access)) x y q))

        pub put_stands : (user : Name) (putter : Option Writer) → Started v.seen user (λ b. IsUser b.kind) → Legal s y.seen → RequestStands y.seen (record { user = user; ask = puts access; writer = None; putter = putter; granted = None })
        put_stands user putter began legal_y = record {
          begun = started_later v.seen y.seen user (λ b. IsUser b.kind) put_later began;
          asked = has_asked s (against_access access) x y (puts access) q legal_y;
          to_copy = refl;
          granted = tt;
        }

        pub is_put : Legal s x.seen → Legal s y.seen → IsTrue (is_client x.number) → MayPut t → IsPut y.seen v.number (puts access) manager value
        is_put legal_x legal_y client may = subst (λ n. IsPut y.seen n (puts access) manager value) (sym v_number_x) record {
          first = ask;
          tuple = t;
          begun = start_later x.seen y.seen manager _ older begun_there;
          within = f.within;
          gets = f.gets;
          from_copy = f.to_copy;
          first_child = f.child;
          told = ap (λ past. end past ask.access) older.1 ∙ is_stays (λ z. end_in ask.access z.event) older.0 x.seen (Commit (Reply t)) ended_x;
          may = may;
          puts = refl;
          to_copy = refl;
          two = asks_more s manager (puts access) x y mine_x is_child q legal_y ∙ ap (λ (rs : List Ask). rs ++ puts access ∷ []) (one_x legal_x);
          child = is_child;
          own = own_asked s manager (puts access) w x y client mine_x is_new q legal_y;
          asked_here = match_some (asked y.seen access) (λ (z : Asked). z.seat ≡ x.number) _ (asked_is s (against_access access) x y (puts access) q legal_y) refl;
        }
          where
            older : IsOlder x.seen y.seen
            older = entered_later (against_access access) (event.Ask (puts access)) x y q

            mine_x : IsMine x.seen x.number manager
            mine_x = children.mine s x.number manager ask.rec value x.seen begun_there

            is_new : child.IsChild s x.number manager kind.Access w x access
            is_new = child.child_of s (against_child manager) x.number manager kind.Access w x access a legal_x x_number (manager_long legal_x)

            is_child : is_child_of manager access ≡ true
            is_child = child.is_child_of s x.number manager kind.Access w x access is_new

  -- THE COMMIT

  module _ (ask : Ask) (manager : Name) (value : Datum) (t : Tuple) (v w : View) (p : IsPut v.seen v.number ask manager value) (e : Entered (against_access ask.access) (event.End ask.access (Commit (Reply t))) v w) (legal_w : Legal s w.seen) where
    older_w : IsOlder v.seen w.seen
    older_w = entered_later (against_access ask.access) (event.End ask.access (Commit (Reply t))) v w e

    told_w : end w.seen p.first.access ≡ Some (Commit (Reply p.tuple))
    told_w = ap (λ past. end past p.first.access) older_w.1 ∙ is_stays (λ z. end_in p.first.access z.event) older_w.0 v.seen (Commit (Reply p.tuple)) p.told

    two_w : asks w.seen manager ≡ getting p.first.access p.first.rec ∷ putting_ask ask.access ask.rec p.tuple.version value ∷ []
    two_w =
        asks_w ask manager ask.rec value t v w p.begun p.child p.own.is_open.not_ended e legal_w ∙ p.two
        ∙ (λ i. record { access = p.first.access; copy = p.from_copy i; rec = p.first.rec; op = p.gets i } ∷ record { access = ask.access; copy = p.to_copy i; rec = ask.rec; op = p.puts i } ∷ [])

    -- a manager whose two accesses took their replies may commit
    pub may_commit : MayCommitOwn s w manager answer.Nothing
    may_commit = match_some (start w.seen manager) (λ b. CommitsOwn s w.seen w.number manager answer.Nothing b b.kind) _
        (begun_w ask manager ask.rec value t v w p.begun p.child p.own.is_open.not_ended e legal_w) record {
          own_seat = refl;
          complete = is_done over base ask.rec value o p.within w.seen manager p.first.access ask.access p.first.rec ask.rec p.tuple t two_w told_w
              (ended_w ask manager ask.rec value t v w p.begun p.child p.own.is_open.not_ended e legal_w) p.may.first p.may.small;
          answers = refl;
        }
