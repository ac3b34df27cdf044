-- Branches that began, were shown the starts of all, ran, and were merged, are a row that ran.
use Rattle.std.proofs.Common.{◌≡◌, ℕ, ◌≤◌, true, false, List, [], ◌∷◌, ◌++◌, map, length, sym, ap, ◌∙◌, subst, append_assoc, append-nil}
use Rattle.std.specs.Prelude.{◌==◌}
use Rattle.std.specs.List.{AllByRecursion, IsDistinct, list_any}
use Rattle.std.proofs.lemmas.Bool.{or_right, or_left}
use Rattle.qc_event.specs.declared.event.Entry.{Entry}
use Rattle.qc_event.specs.declared.event.Event.TheVariants as event
use Rattle.qc_event.specs.declared.event.Kind.TheVariants as kind
use Rattle.qc_event.specs.History.{Past, Name, limit}
use Rattle.qc_event.specs.Legal.{Legal}
use Rattle.qc_script.specs.Calls.{by_client, Merged}
use Rattle.qc_script.specs.Client.{Client, ClientView, is_own, branch_of, Made, IsLater, HasJoined}
use Rattle.qc_interp.specs.AtOnce.{StandingBranch, branch_in, HasBegun, BeganInTurn, InPairs, WasShown, HasRun, MergedInTurn}
use Rattle.qc_interp.specs.Branches.{Branch, seats_of, start_of}
use Rattle.qc_interp.proofs.Branching.Numbers.{number_of, out_with, AreFresh, merged_out}
use Rattle.qc_interp.proofs.Scopes.Growth.{made_itself, made_both}
use Rattle.qc_interp.proofs.Branching.Joined.{joined_before, joined_start, joined_none}
use Rattle.qc_interp.proofs.Branching.MadeBy.{NoneOf, without, none_under, made_until, made_fewer, owned_more}
use Rattle.qc_interp.proofs.Rows.Starts.{StartedOne, StartedInTurn}

-- a branch is the same later, but for more kin
pub record Became (old new : StandingBranch) : Type 0 where
  pub joined : HasJoined old.view.client old.view.seen new.view.client
  pub body : new.body ≡ old.body
  pub first : new.first ≡ old.first

pub has_become : (old new : StandingBranch) → HasRun old new → Became old new
has_become old new ran = record { joined = ran.joined; body = ran.body; first = ran.first }

none_joined : (c d : Client) (past : Past) → HasJoined c past d → NoneOf c past → NoneOf d past
none_joined c d past j none = by_past past j.own none
  where
    by_past : (past : Past) → AllByRecursion (λ (e : Entry). is_own d e.seat ≡ is_own c e.seat) past → NoneOf c past → NoneOf d past
    by_past [] own none = tt
    by_past (e ∷ past) own none = (own.0 ∙ none.0, by_past past own.1 none.1)

-- A client that is the same but for its branches that are out.
abbrev pub WithOut : Client → Client → Type 0
WithOut c d = (out : List ℕ) × (d ≡ record c { out = out })

pub still_same : (c d : Client) (es a b : Past) → WithOut c d → Made d es a b → Made c es a b
still_same c d es a b w m = let n = subst (λ x. Made x es a b) w.1 m in record { newer = n.newer; grown = n.grown; made = n.made; legal = n.legal }

pub more_out : (c : Client) (of : Name) (v u : ClientView) (b : StandingBranch) → WithOut c v.client → HasBegun v u of b → WithOut c u.client
more_out c of v u b w begun = (number_of b ∷ w.0, begun.left ∙ ap (λ (x : Client). record x { out = number_of b ∷ x.out }) w.1)

-- AS THEY BEGAN

module _ (c : Client) (of : Name) where
  pub began_made : (v w : ClientView) (bs : List StandingBranch) → WithOut c v.client → Legal c.setting v.seen → BeganInTurn v of bs w → Made c [] v.seen w.seen
  began_made v w [] same legal h = subst (λ x. Made c [] v.seen x) (sym (ap (λ (x : ClientView). x.seen) h)) (made_itself c v.seen legal)
  began_made v w (b ∷ bs) same legal h =
      let own = still_same c v.client [] v.seen h.0.seen same h.1.made in
      made_both c v.seen h.0.seen w.seen own (began_made h.0 w bs (more_out c of v h.0 b same h.1) own.legal h.2)

  pub began_out : (v w : ClientView) (bs : List StandingBranch) (out : List ℕ) → v.client ≡ record c { out = out } → BeganInTurn v of bs w → w.client ≡ record c { out = out_with (map number_of bs) out }
  began_out v w [] out same h = ap (λ (x : ClientView). x.client) h ∙ same
  began_out v w (b ∷ bs) out same h = began_out h.0 w bs (number_of b ∷ out) (h.1.left ∙ ap (λ (x : Client). record x { out = number_of b ∷ x.out }) same) h.2

  pub began_fresh : (v w : ClientView) (bs : List StandingBranch) (out : List ℕ) → v.client ≡ record c { out = out } → BeganInTurn v of bs w → AreFresh (map number_of bs) out
  began_fresh v w [] out same h = tt
  began_fresh v w (b ∷ bs) out same h = (
    subst (λ (x : Client). Rattle.std.specs.List.list_any (λ k. k == number_of b) x.out ≡ false) same h.1.not_out,
    began_fresh h.0 w bs (number_of b ∷ out) (h.1.left ∙ ap (λ (x : Client). record x { out = number_of b ∷ x.out }) same) h.2,
  )

  module _ (v u w : ClientView) (b0 b1 b2 : StandingBranch) (same : WithOut c v.client) (begun : HasBegun v u of b0) (later : Made c [] u.seen w.seen) (shown : WasShown w.seen b0 b1) (became : Became b1 b2) where
    b : Branch
    b = branch_in b2

    -- it is the branch that began, with the kin that it has now
    is_branch : b0.view.client ≡ branch_of c (number_of b0) of
    is_branch = begun.client ∙ ap (λ (x : Client). branch_of x (number_of b0) of) same.1

    joined : HasJoined b0.view.client w.seen b2.view.client
    joined = subst (λ x. HasJoined x w.seen b2.view.client) shown.client
        (joined_before b1.view.client b2.view.client w.seen b1.view.seen (record { newer = shown.since.newer; grown = shown.since.grown; legal = subst (λ (x : Client). Legal x.setting b1.view.seen) (sym shown.client) shown.since.legal }) became.joined)

    kin_is : b2.view.client ≡ record (branch_of c (number_of b0) of) { kin = joined.kin }
    kin_is = joined.same ∙ ap (λ (x : Client). record x { kin = joined.kin }) is_branch

    setting_is : b0.view.client.setting ≡ c.setting
    setting_is = ap (λ (x : Client). x.setting) is_branch

    made_start : Made b2.view.client (start_of c (branch_in b2) ∷ []) v.seen u.seen
    made_start =
        let until = joined_before b0.view.client b2.view.client u.seen w.seen (record { newer = later.newer; grown = later.grown; legal = subst (λ s. Legal s w.seen) (sym setting_is) later.legal }) joined in
        let m = joined_start b0.view.client b2.view.client u.seen until b0.first b0.body.number v.seen begun.branch_made in
        subst (λ s. Made b2.view.client (by_client b2.view.client (event.Start b2.first (kind.User s b2.body.number)) ∷ []) v.seen u.seen) (ap (λ (x : Client). x.session) kin_is)
        (subst (λ n. Made b2.view.client (by_client b2.view.client (event.Start n (kind.User b2.view.client.session b2.body.number)) ∷ []) v.seen u.seen) (sym (became.first ∙ shown.first))
        (subst (λ k. Made b2.view.client (by_client b2.view.client (event.Start b0.first (kind.User b2.view.client.session k)) ∷ []) v.seen u.seen) (sym (ap (λ (x : Rattle.qc_script.specs.Plan.Numbered). x.number) (became.body ∙ shown.body))) m))

    pub started_one : StartedOne c of v.seen u.seen w.seen (branch_in b2)
    started_one =
        let until_u : IsLater b0.view.client u.seen w.seen = record { newer = later.newer; grown = later.grown; legal = subst (λ s. Legal s w.seen) (sym setting_is) later.legal } in
        let none : Made b0.view.client [] u.seen b1.view.seen = subst (λ x. Made b0.view.client [] x b1.view.seen) begun.seen shown.made in
        record {
          client = kin_is ∙ ap (λ (y : Client). record (branch_of c y.number of) { kin = y.kin }) (sym kin_is);
          none = none_joined b0.view.client b2.view.client v.seen
              (joined_before b0.view.client b2.view.client v.seen w.seen
              (let whole = made_both c v.seen u.seen w.seen own_is later in record { newer = whole.newer; grown = whole.grown; legal = subst (λ s. Legal s w.seen) (sym setting_is) whole.legal }) joined)
              (subst (λ x. NoneOf x v.seen) (sym is_branch) (none_under (number_of b0) v.seen begun.none));
          is_one = subst (λ n. Rattle.qc_event.specs.History.is_child of n ≡ true) (sym (became.first ∙ shown.first)) begun.is_one;
          own = own_is;
          made = made_start;
          still = joined_none b0.view.client b2.view.client w.seen joined u.seen (made_until b0.view.client u.seen w.seen b1.view.seen until_u shown.since none);
        }
      where
        own_is : Made c [] v.seen u.seen
        own_is = still_same c v.client [] v.seen u.seen same begun.made

  pub all_started : (v w : ClientView) (bs0 bs1 bs2 : List StandingBranch) → WithOut c v.client → Legal c.setting v.seen → BeganInTurn v of bs0 w → InPairs (WasShown w.seen) bs0 bs1 → InPairs Became bs1 bs2 → StartedInTurn c of v.seen (map branch_in bs2) w.seen
  all_started v w [] [] [] same legal h shown became = ap (λ (x : ClientView). x.seen) h
  all_started v w [] [] (b ∷ bs) same legal h shown became = absurd became
  all_started v w [] (b ∷ bs) bs2 same legal h shown became = absurd shown
  all_started v w (b ∷ bs) [] bs2 same legal h shown became = absurd shown
  all_started v w (b ∷ bs) (b1 ∷ bs1) [] same legal h shown became = absurd became
  all_started v w (b ∷ bs) (b1 ∷ bs1) (b2 ∷ bs2) same legal h shown became =
      let own = still_same c v.client [] v.seen h.0.seen same h.1.made in
      let more = more_out c of v h.0 b same h.1 in
      (h.0.seen, started_one v h.0 w b b1 b2 same h.1 (began_made h.0 w bs more own.legal h.2) shown.0 became.0, all_started h.0 w bs bs1 bs2 more own.legal h.2 shown.1 became.1)

-- AS THEY ARE MERGED

own_first : (c : Client) (ks : List ℕ) (seat : ℕ) → is_own c seat ≡ true → is_own (record c { kin = c.kin ++ ks }) seat ≡ true
own_first c ks seat own = owned_more c ks seat ∙ or_left (is_own c seat) (list_any (λ k. k == seat) ks) own

own_second : (c b : Client) (seat : ℕ) → is_own b seat ≡ true → is_own (record c { kin = c.kin ++ b.number ∷ b.kin }) seat ≡ true
own_second c b seat own = owned_more c (b.number ∷ b.kin) seat ∙ or_right (is_own c seat) (is_own b seat) own

module _ (w x : ClientView) (b : StandingBranch) (m : Merged w b.view x) where
  own_stays : (seat : ℕ) → is_own w.client seat ≡ true → is_own x.client seat ≡ true
  own_stays seat own = ap (λ c. is_own c seat) m.client ∙ own_first w.client (b.view.client.number ∷ b.view.client.kin) seat own

  own_comes : (seat : ℕ) → is_own b.view.client seat ≡ true → is_own x.client seat ≡ true
  own_comes seat own = ap (λ c. is_own c seat) m.client ∙ own_second w.client b.view.client seat own

  setting_stays : x.client.setting ≡ w.client.setting
  setting_stays = ap (λ (c : Client). c.setting) m.client

pub merged_made : (w x : ClientView) (bs : List StandingBranch) → Legal w.client.setting w.seen → MergedInTurn w bs x → Made w.client [] w.seen x.seen
merged_made w x [] legal h = subst (λ y. Made w.client [] w.seen y) (sym (ap (λ (y : ClientView). y.seen) h)) (made_itself w.client w.seen legal)
merged_made w x (b ∷ bs) legal h =
    let m = h.1 in
    made_both w.client w.seen h.0.seen x.seen m.made
    (made_fewer w.client h.0.client h.0.seen x.seen (own_stays w h.0 b m) (setting_stays w h.0 b m) (merged_made h.0 x bs (subst (λ s. Legal s h.0.seen) (sym (setting_stays w h.0 b m)) m.made.legal) h.2))

pub merged_client : (w x : ClientView) (bs : List StandingBranch) → MergedInTurn w bs x → x.client ≡ record w.client { kin = w.client.kin ++ seats_of (map branch_in bs); out = merged_out bs w.client.out }
merged_client w x [] h = ap (λ (y : ClientView). y.client) h ∙ ap (λ kin. record w.client { kin = kin }) (sym (append-nil w.client.kin))
merged_client w x (b ∷ bs) h =
    merged_client h.0 x bs h.2
    ∙ ap (λ (y : Client). record y { kin = y.kin ++ seats_of (map branch_in bs); out = merged_out bs y.out }) h.1.client
    ∙ ap (λ kin. record w.client { kin = kin; out = merged_out bs (without (number_of b) w.client.out) }) (append_assoc w.client.kin (b.view.client.number ∷ b.view.client.kin) (seats_of (map branch_in bs)))

-- each branch made nothing since it was merged, or stopped
abbrev pub MadeNoMore : Past → StandingBranch → Type 0
MadeNoMore now b = Made b.view.client [] b.view.seen now

pub merged_each : (w x : ClientView) (bs : List StandingBranch) → AllByRecursion (λ b. b.view.client.setting ≡ w.client.setting) bs → MergedInTurn w bs x → AllByRecursion (MadeNoMore x.seen) bs
merged_each w x [] same h = tt
merged_each w x (b ∷ bs) same h =
    let m = h.1 in
    let setting = setting_stays w h.0 b m in
    let rest = merged_made h.0 x bs (subst (λ s. Legal s h.0.seen) (sym setting) m.made.legal) h.2 in (
      made_both b.view.client b.view.seen h.0.seen x.seen m.branch_made (made_fewer b.view.client h.0.client h.0.seen x.seen (own_comes w h.0 b m) (setting ∙ sym same.0) rest),
      merged_each h.0 x bs (others bs same.1 setting) h.2,
    )
  where
    others : (bs : List StandingBranch) → AllByRecursion (λ (y : StandingBranch). y.view.client.setting ≡ w.client.setting) bs → h.0.client.setting ≡ w.client.setting → AllByRecursion (λ (y : StandingBranch). y.view.client.setting ≡ h.0.client.setting) bs
    others [] all is = tt
    others (y ∷ bs) all is = (all.0 ∙ sym is, others bs all.1 is)

-- some were merged
pub record MergedSome (x : ClientView) : Type 0 where
  pub apart : IsDistinct (λ a b. a == b) (x.client.number ∷ x.client.kin)
  pub bounded : length x.seen ≤ limit

pub merged_some : (w x : ClientView) (b : StandingBranch) (bs : List StandingBranch) → MergedInTurn w (b ∷ bs) x → MergedSome x
merged_some w x b [] h = subst MergedSome (sym h.2) (record { apart = h.1.apart; bounded = h.1.bounded })
merged_some w x b (b1 ∷ bs) h = merged_some h.0 x b1 bs h.2
