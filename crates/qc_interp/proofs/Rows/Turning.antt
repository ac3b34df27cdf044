-- Of bodies at once only the first few were begun: their branches, which made nothing but their starts, were shown the starts of
-- all and merged.
use Rattle.std.proofs.Common.{◌≡◌, ℕ, ◌<◌, ◌≤◌, true, false, List, [], ◌∷◌, ◌++◌, length, map, refl, sym, ap, ◌∙◌, subst, arith, append_assoc, Bool}
use Rattle.std.specs.Prelude.{Option, None, is_some, MatchOption, Some, if◌then◌else◌}
use Rattle.std.specs.List.{AllByRecursion}
use Rattle.qc_event.specs.declared.event.Event.TheVariants as event
use Rattle.qc_event.specs.declared.event.Kind.TheVariants as kind
use Rattle.qc_event.specs.History.{Past, Name, is_child, limit, Begun, start}
use Rattle.qc_event.specs.Legal.{Legal}
use Rattle.qc_event.specs.Standing.{Started, IsUser}
use Rattle.qc_event.specs.declared.event.Entry.{Entry}
use Rattle.qc_event.proofs.Absent.{same_itself}
use Rattle.qc_interp.proofs.Scopes.Began.{kept_start}
use Rattle.qc_script.specs.declared.tx.TxNo.{TxNo}
use Rattle.qc_script.specs.declared.tx.TxNo.TheVariants as tx_no
use Rattle.qc_script.specs.Calls.{by_client, Refuses, WasRefused}
use Rattle.qc_script.specs.Client.{Client, ClientView, mine, Made, HasJoined, is_own}
use Rattle.qc_script.specs.Plan.{Plan, Numbered}
use Rattle.qc_interp.specs.AtOnce.{IsFirst, StandingBranch, branch_in, BeganSome, InPairs, WasShown, MayRun, AreOut, MergedInTurn}
use Rattle.qc_interp.specs.Branches.{Branch, with_all, seats_of, RanTries, RanRow}
use Rattle.qc_interp.specs.Reach.{Reach}
use Rattle.qc_interp.specs.Running.{Runs}
use Rattle.qc_interp.proofs.Branching.Numbers.{number_of, out_with, AreFresh, CanMerge, are_out, merged_out, all_merged}
use Rattle.qc_interp.proofs.Branching.Plans.{BodyFits}
use Rattle.qc_interp.proofs.Scopes.Growth.{made_is, made_later, made_both}
use Rattle.qc_interp.proofs.Branching.Joined.{joined_itself, joined_before, joined_none, joined_runs}
use Rattle.qc_interp.proofs.Branching.MadeBy.{refuses_later}
use Rattle.qc_interp.proofs.Rows.Came.{only_begun}
use Rattle.qc_interp.proofs.Rows.Few.{HasOnlyBegun}
use Rattle.qc_interp.proofs.Rows.Fits.{may_run}
use Rattle.qc_interp.proofs.Rows.Ran.{Became, began_made, began_out, began_fresh, all_started, still_same, merged_made, merged_client, merged_each, MadeNoMore, merged_some}
use Rattle.qc_interp.proofs.Rows.Starts.{StartedInTurn, started_made, started_begun, started_in_order}
use Rattle.qc_interp.proofs.Rows.Whole.{StaysOf, all_stay, same_numbers}
use Rattle.qc_interp.proofs.Trying.TriesLeft.{refused_made}

pub become_itself : (bs : List StandingBranch) → InPairs Became bs bs
become_itself [] = tt
become_itself (b ∷ bs) = (record { joined = joined_itself b.view.client b.view.seen; body = refl; first = refl }, become_itself bs)

-- who has seen what was seen later has seen what was before
shown_before : (early late newer : Past) → late ≡ newer ++ early → (bs ones : List StandingBranch) → InPairs (WasShown late) bs ones → InPairs (WasShown early) bs ones
shown_before early late newer is [] [] all = tt
shown_before early late newer is [] (o ∷ ones) all = absurd all
shown_before early late newer is (b ∷ bs) [] all = absurd all
shown_before early late newer is (b ∷ bs) (o ∷ ones) all =
    let s = all.0 in (
      record {
        client = s.client;
        body = s.body;
        first = s.first;
        made = s.made;
        since = record { newer = s.since.newer ++ newer; grown = s.since.grown ∙ ap (λ l. s.since.newer ++ l) is ∙ sym (append_assoc s.since.newer newer early); legal = s.since.legal };
        met = s.met;
      },
      shown_before early late newer is bs ones all.1,
    )

-- Branches of a client are those of who has joined more, under whose seats nothing was made until then.
started_more : (c : Client) (kin : List ℕ) (of : Name) (old : Past) (bs : List Branch) (now : Past) → Legal c.setting old → HasJoined c now (record c { kin = kin }) → StartedInTurn c of old bs now → StartedInTurn (record c { kin = kin }) of old bs now
started_more c kin of old [] now legal j h = h
started_more c kin of old (b ∷ bs) now legal j (mid, one, rest) =
    let later = made_later c [] mid now (started_made c of mid bs now one.own.legal rest) in (
      mid,
      record {
        client = one.client;
        none = one.none;
        is_one = one.is_one;
        own = joined_none c (record c { kin = kin }) mid (joined_before c (record c { kin = kin }) mid now later j) old one.own;
        made = one.made;
        still = one.still;
      },
      started_more c kin of mid bs now one.own.legal j rest,
    )

-- what a refusal to begin tells
told : (c : Client) (of : Name) (a b : Past) (why : TxNo) → WasRefused c of a b why → Refuses b of why × ((child : Name) → why ≡ tx_no.ChildrenOpen child → ⊥)
told c of a b (tx_no.Short s) h = (h.1, λ child is. cc)
told c of a b (tx_no.Orphan n) h = (h.1, λ child is. cc)
told c of a b tx_no.Ended h = (h.1, λ child is. cc)
told c of a b tx_no.Ready h = (h.1, λ child is. cc)
told c of a b (tx_no.ChildrenOpen child) h = absurd h
told c of a b (tx_no.Conflict copy holder) h = absurd h.1
told c of a b (tx_no.NoQuorum lack) h = absurd h.1
told c of a b tx_no.Last h = absurd h.1
told c of a b tx_no.Ledger h = absurd h.1

any_body : Numbered
any_body = record { number = 0; tries = 0; must = false; plan = Plan.done }

pub none_or_some : {A : Type 0} (P : Type 0) (xs : List A) → (xs ≡ [] → P) → (0 < length xs → P) → P
none_or_some P [] none some = none refl
none_or_some P (x ∷ xs) none some = some (omega arith)

pub bodies_in : (bs : List StandingBranch) → map (λ (b : Branch). b.body) (map branch_in bs) ≡ map (λ (b : StandingBranch). b.body) bs
bodies_in [] = refl
bodies_in (b ∷ bs) = ap (λ l. b.body ∷ l) (bodies_in bs)

module _ (of : Name) (v m m1 : ClientView) (bs ones : List StandingBranch) (why : TxNo) (runs : Runs v.client of v.seen) (began : BeganSome v of bs m why) (shown : InPairs (WasShown m.seen) bs ones) (same : m1.client ≡ m.client) (made : Made m.client [] m.seen m1.seen) where
  abbrev c : Client
  c = v.client

  abbrev mid : ClientView
  mid = began.0

  -- the client, with the one that was merged as it could not begin
  abbrev pub joined_one : Client
  joined_one = record v.client { kin = began.2.joined.kin }

  abbrev d : Client
  d = joined_one

  abbrev branches : List Branch
  branches = map branch_in ones

  numbers : map number_of ones ≡ map number_of bs
  numbers = (same_numbers m.seen bs ones ones shown (become_itself ones)).0

  abbrev out : List ℕ
  out = out_with (map number_of ones) c.out

  mid_is : mid.client ≡ record c { out = out }
  mid_is = began_out c of v mid bs c.out refl began.1 ∙ ap (λ ns. record c { out = out_with ns c.out }) (sym numbers)

  m_is : m.client ≡ record d { out = out }
  m_is = began.2.joined.same ∙ ap (λ (x : Client). record x { kin = began.2.joined.kin }) mid_is

  m1_is : m1.client ≡ record d { out = out }
  m1_is = same ∙ m_is

  joined_mid : HasJoined c mid.seen d
  joined_mid =
      let j : HasJoined (record c { out = out }) mid.seen (record d { out = out }) = subst (λ x. HasJoined x mid.seen (record d { out = out })) mid_is (subst (HasJoined mid.client mid.seen) m_is began.2.joined) in
      record { kin = d.kin; same = refl; wider = λ seat own. j.wider seat own; own = j.own }

  began_since : Made c [] v.seen mid.seen
  began_since = began_made c of v mid bs (c.out, refl) runs.legal began.1

  pub joined_old : HasJoined v.client v.seen joined_one
  joined_old = joined_before c d v.seen mid.seen (made_later c [] v.seen mid.seen began_since) joined_mid

  pub runs_then : Runs joined_one of v.seen
  runs_then = joined_runs c d v.seen joined_old of runs

  quiet : Made m.client [] mid.seen m.seen
  quiet = refused_made m.client of any_body mid.seen m.seen why began.2.refused

  -- the client made nothing until the branches are merged
  until_shown : Made d [] mid.seen m1.seen
  until_shown = still_same d m.client [] mid.seen m1.seen (out, m_is) (made_both m.client mid.seen m.seen m1.seen quiet made)

  shown_mid : InPairs (WasShown mid.seen) bs ones
  shown_mid = shown_before mid.seen m.seen quiet.newer quiet.grown bs ones shown

  fresh : AreFresh (map number_of ones) c.out
  fresh = subst (λ ns. AreFresh ns c.out) (sym numbers) (began_fresh c of v mid bs c.out refl began.1)

  stay : AllByRecursion (StaysOf c of) ones
  stay = all_stay c of v mid m.seen bs ones ones (c.out, refl) began.1 shown (become_itself ones)

  -- they can be merged
  pub turned_out : AreOut m1.client.out m1.client.net ones
  turned_out = subst (λ (x : Client). AreOut x.out x.net ones) (sym m1_is) (are_out c.net ones c.out fresh (each_can bs ones shown stay))
    where
      each_can : (xs ys : List StandingBranch) → InPairs (WasShown m.seen) xs ys → AllByRecursion (StaysOf c of) ys → AllByRecursion (CanMerge c.net) ys
      each_can [] [] all stays = tt
      each_can [] (y ∷ ys) all stays = absurd all
      each_can (x ∷ xs) [] all stays = absurd all
      each_can (x ∷ xs) (y ∷ ys) all stays = ((stays.0.none_out, stays.0.net, all.0.met), each_can xs ys all.1 stays.1)

  started : StartedInTurn d of v.seen branches mid.seen
  started =
      started_more c began.2.joined.kin of v.seen branches mid.seen runs.legal joined_mid
      (all_started c of v mid bs ones ones (c.out, refl) runs.legal began.1 shown_mid (become_itself ones))

  -- AS THEY ARE MERGED

  module _ (w : ClientView) (merged : MergedInTurn m1 ones w) where
    pub turned_client : w.client ≡ with_all joined_one (map branch_in ones)
    turned_client =
        merged_client m1 w ones merged ∙ ap (λ (x : Client). record x { kin = x.kin ++ seats_of branches; out = merged_out ones x.out }) m1_is
        ∙ ap (λ o. record d { kin = d.kin ++ seats_of branches; out = o }) (all_merged ones c.out fresh)

    merged_since : Made d [] m1.seen w.seen
    merged_since = still_same d m1.client [] m1.seen w.seen (out, m1_is) (merged_made m1 w ones (subst (λ (x : Client). Legal x.setting m1.seen) (sym same) made.legal) merged)

    since : Made d [] mid.seen w.seen
    since = made_both d mid.seen m1.seen w.seen until_shown merged_since

    old_since : Made d [] v.seen mid.seen
    old_since = joined_none c d mid.seen joined_mid v.seen began_since

    pub turned_made : Made joined_one [] v.seen w.seen
    turned_made = made_both d v.seen mid.seen w.seen old_since since

    settings : AllByRecursion (λ (b : StandingBranch). b.view.client.setting ≡ m1.client.setting) ones
    settings = by_list ones stay
      where
        by_list : (l : List StandingBranch) → AllByRecursion (StaysOf c of) l → AllByRecursion (λ (b : StandingBranch). b.view.client.setting ≡ m1.client.setting) l
        by_list [] all = tt
        by_list (b ∷ l) all = (all.0.setting ∙ sym (ap (λ (x : Client). x.setting) m1_is), by_list l all.1)

    no_more : AllByRecursion (MadeNoMore w.seen) ones
    no_more = merged_each m1 w ones settings merged

    -- what was seen has grown
    pub turned_grown : (newer : Past) × (w.seen ≡ newer ++ m.seen)
    turned_grown =
        (merged_since.newer ++ made.newer, merged_since.grown ∙ ap (λ l. merged_since.newer ++ l) made.grown ∙ sym (append_assoc merged_since.newer made.newer m.seen))

    -- it is refused still, where nothing was seen meanwhile if there are none
    pub turned_refused : (ones ≡ [] → w.seen ≡ m.seen) → Refuses w.seen of why
    turned_refused idle =
        let t = told m.client of mid.seen m.seen why began.2.refused in
        none_or_some (Refuses w.seen of why) ones (λ none. subst (λ h. Refuses h of why) (sym (idle none)) t.0) (λ some. by_list ones some refl t)
      where
        by_list : (ys : List StandingBranch) → 0 < length ys → ys ≡ ones → Refuses m.seen of why × ((child : Name) → why ≡ tx_no.ChildrenOpen child → ⊥) → Refuses w.seen of why
        by_list [] some is t = let z : ⊥ = omega (arith, some) in absurd z
        by_list (y ∷ ys) some is t =
            let bound : length w.seen ≤ limit = (merged_some m1 w y ys (subst (λ l. MergedInTurn m1 l w) (sym is) merged)).bounded in
            subst (λ h. Refuses h of why) (sym turned_grown.1) (refuses_later turned_grown.0 m.seen of why (subst (λ h. length h ≤ limit) turned_grown.1 bound) t.1 t.0)

    -- WHAT THE BRANCHES MADE

    module _ (fits : AllByRecursion (BodyFits v.client.setting (length of)) (map (λ (b : StandingBranch). b.body) bs)) where
      may : AllByRecursion (MayRun of) ones
      may = may_run v mid of bs ones runs began.1 shown_mid fits

      only_ran : (old : Past) (ys : List StandingBranch) → AllByRecursion (MayRun of) ys → AllByRecursion (MadeNoMore w.seen) ys → StartedInTurn d of old (map branch_in ys) mid.seen
          → AllByRecursion (λ (b : Branch). HasOnlyBegun d w.seen b × RanTries Reach.cut_off (Unit {0}) b.client b.body w.seen) (map branch_in ys)
      only_ran old [] each none begun = tt
      only_ran old (y ∷ ys) each none (u, one, rest) =
          let now : mine y.view.client w.seen ≡ by_client y.view.client (event.Start y.first (kind.User y.view.client.session y.body.number)) ∷ [] = made_is y.view.client [] y.view.seen w.seen none.0 ∙ each.0.made in (
            (
              now ∙ ap (λ s. by_client y.view.client (event.Start y.first (kind.User s y.body.number)) ∷ []) (ap (λ (x : Client). x.session) one.client),
              only_begun (Unit {0}) y.view.client y.body y.first (subst (λ r. 0 < length r) (sym each.0.root) each.0.nonroot) (subst (λ r. is_child r y.first ≡ true) (sym each.0.root) each.0.is_one) each.0.tried w.seen none.0.legal now,
            ),
            only_ran u ys each.1 none.1 rest,
          )

      both : AllByRecursion (λ (b : Branch). HasOnlyBegun d w.seen b × RanTries Reach.cut_off (Unit {0}) b.client b.body w.seen) branches
      both = only_ran v.seen ones may no_more started

      pub turned_only : AllByRecursion (HasOnlyBegun joined_one w.seen) (map branch_in ones)
      turned_only = by_list branches both
        where
          by_list : (l : List Branch) → AllByRecursion (λ (b : Branch). HasOnlyBegun d w.seen b × RanTries Reach.cut_off (Unit {0}) b.client b.body w.seen) l → AllByRecursion (HasOnlyBegun d w.seen) l
          by_list [] all = tt
          by_list (b ∷ l) all = (all.0.0, by_list l all.1)

      ran : AllByRecursion (λ (b : Branch). RanTries Reach.cut_off (Unit {0}) b.client b.body w.seen) branches
      ran = by_list branches both
        where
          by_list : (l : List Branch) → AllByRecursion (λ (b : Branch). HasOnlyBegun d w.seen b × RanTries Reach.cut_off (Unit {0}) b.client b.body w.seen) l → AllByRecursion (λ (b : Branch). RanTries Reach.cut_off (Unit {0}) b.client b.body w.seen) l
          by_list [] all = tt
          by_list (b ∷ l) all = (all.0.1, by_list l all.1)

      -- each first try is a user transaction below it
      pub turned_firsts : AllByRecursion (IsFirst of w.seen) (map (λ (b : StandingBranch). b.first) ones)
      turned_firsts = by_list ones may no_more
        where
          user : (y : StandingBranch) → MayRun of y → MadeNoMore w.seen y → Started w.seen y.first (λ e. IsUser e.kind)
          user y may_run none = subst (λ o. MatchOption o ⊥ (λ (e : Begun). IsUser e.kind)) (sym (kept_start (λ (e : Entry). is_own y.view.client e.seat) y.view.client.setting w.seen y.first _ none.legal
              (ap (λ h. start h y.first) (made_is y.view.client [] y.view.seen w.seen none ∙ may_run.made)
              ∙ ap (λ (x : Bool). if x then Some (record { seat = y.view.client.number; kind = kind.User y.view.client.session y.body.number }) else None) (same_itself y.first)))) tt

          by_list : (l : List StandingBranch) → AllByRecursion (MayRun of) l → AllByRecursion (MadeNoMore w.seen) l → AllByRecursion (IsFirst of w.seen) (map (λ (b : StandingBranch). b.first) l)
          by_list [] each none = tt
          by_list (y ∷ l) each none = ((each.0.is_one, user y each.0 none.0), by_list l each.1 none.1)

      pub turned_row : 0 < length ones → RanRow Reach.cut_off (λ b. Unit {0}) joined_one of v.seen mid.seen w.seen (map branch_in ones)
      turned_row some = record {
        made = turned_made;
        shown_later = made_later d [] v.seen mid.seen old_since;
        since = made_later d [] mid.seen w.seen since;
        apart = by_list ones some refl;
        begun = started_begun d of v.seen [] branches mid.seen started;
        in_order = started_in_order d of v.seen branches mid.seen runs_then.legal started;
        ran = ran;
      }
        where
          by_list : (ys : List StandingBranch) → 0 < length ys → ys ≡ ones → Rattle.std.specs.List.IsDistinct (λ a b. Rattle.std.specs.Prelude.◌==◌ a b) (d.number ∷ d.kin ++ seats_of branches)
          by_list [] none is = let z : ⊥ = omega (arith, none) in absurd z
          by_list (y ∷ ys) any is =
              subst (λ (x : Client). Rattle.std.specs.List.IsDistinct (λ a b. Rattle.std.specs.Prelude.◌==◌ a b) (x.number ∷ x.kin)) turned_client
              (merged_some m1 w y ys (subst (λ l. MergedInTurn m1 l w) (sym is) merged)).apart
