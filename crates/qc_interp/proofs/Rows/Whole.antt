-- Branches from their begin to their merges, as one step.
use Rattle.std.proofs.Common.{◌≡◌, List, [], ◌∷◌, ◌++◌, map, refl, sym, ap, ◌∙◌, subst}
use Rattle.std.specs.Prelude.{Option, None, Some, Result, slice_get, option_map}
use Rattle.std.specs.List.{AllByRecursion}
use Rattle.qc_event.specs.History.{Past, Name}
use Rattle.qc_event.specs.Legal.{Legal}
use Rattle.qc_script.specs.Calls.{MeetsLink}
use Rattle.qc_script.specs.Client.{Client, ClientView, mine, Made, IsLater, HasJoined, AreOurs}
use Rattle.qc_interp.specs.AtOnce.{StandingBranch, branch_in, BeganInTurn, HasBegun, InPairs, WasShown, MergedInTurn, AreOut}
use Rattle.qc_interp.specs.Branches.{Branch, with_all, RanTries, RanRow, AreTriesOurs, tries_by, row_step, FrontRow}
use Rattle.qc_interp.specs.Reach.{Reach}
use Rattle.qc_interp.proofs.Branching.Numbers.{number_of, out_with, AreFresh, CanMerge, are_out, all_merged, merged_out}
use Rattle.qc_interp.proofs.Scopes.Growth.{made_later, made_both}
use Rattle.qc_interp.proofs.Rows.Ran.{Became, WithOut, still_same, began_made, began_out, began_fresh, all_started, merged_made, merged_client, merged_each, MadeNoMore, MergedSome}
use Rattle.qc_interp.proofs.Rows.Starts.{StartedInTurn, started_begun, started_in_order}

-- what stays of each branch that began
pub record StaysOf (c : Client) (of : Name) (b : StandingBranch) : Type 0 where
  pub root : b.view.client.root ≡ of
  pub setting : b.view.client.setting ≡ c.setting
  pub net : b.view.client.net ≡ c.net
  pub none_out : b.view.client.out ≡ []

module _ (c : Client) (of : Name) where
  stays_one : (v u : ClientView) (seen : Past) (b0 b1 b2 : StandingBranch) → WithOut c v.client → HasBegun v u of b0 → WasShown seen b0 b1 → Became b1 b2 → StaysOf c of b2
  stays_one v u seen b0 b1 b2 same begun shown became = subst (StaysOf c of) refl (record {
    root = ap (λ (x : Client). x.root) is;
    setting = ap (λ (x : Client). x.setting) is;
    net = ap (λ (x : Client). x.net) is;
    none_out = ap (λ (x : Client). x.out) is;
  })
    where
      is : b2.view.client ≡ record (Rattle.qc_script.specs.Client.branch_of c (number_of b0) of) { kin = became.joined.kin }
      is = became.joined.same ∙ ap (λ (x : Client). record x { kin = became.joined.kin }) (shown.client ∙ begun.client ∙ ap (λ (x : Client). Rattle.qc_script.specs.Client.branch_of x (number_of b0) of) same.1)

  pub all_stay : (v w : ClientView) (seen : Past) (bs0 bs1 bs2 : List StandingBranch) → WithOut c v.client → BeganInTurn v of bs0 w → InPairs (WasShown seen) bs0 bs1 → InPairs Became bs1 bs2 → AllByRecursion (StaysOf c of) bs2
  all_stay v w seen [] [] [] same h shown became = tt
  all_stay v w seen [] [] (b ∷ bs) same h shown became = absurd became
  all_stay v w seen [] (b ∷ bs) bs2 same h shown became = absurd shown
  all_stay v w seen (b ∷ bs) [] bs2 same h shown became = absurd shown
  all_stay v w seen (b ∷ bs) (b1 ∷ bs1) [] same h shown became = absurd became
  all_stay v w seen (b ∷ bs) (b1 ∷ bs1) (b2 ∷ bs2) same h shown became =
      (stays_one v h.0 seen b b1 b2 same h.1 shown.0 became.0, all_stay h.0 w seen bs bs1 bs2 (Rattle.qc_interp.proofs.Rows.Ran.more_out c of v h.0 b same h.1) h.2 shown.1 became.1)

-- they keep their numbers and their bodies
pub same_numbers : (seen : Past) (bs0 bs1 bs2 : List StandingBranch) → InPairs (WasShown seen) bs0 bs1 → InPairs Became bs1 bs2 → (map number_of bs2 ≡ map number_of bs0) × (map (λ (b : StandingBranch). b.body) bs2 ≡ map (λ (b : StandingBranch). b.body) bs0)
same_numbers seen [] [] [] shown became = (refl, refl)
same_numbers seen [] [] (b ∷ bs) shown became = absurd became
same_numbers seen [] (b ∷ bs) bs2 shown became = absurd shown
same_numbers seen (b ∷ bs) [] bs2 shown became = absurd shown
same_numbers seen (b ∷ bs) (b1 ∷ bs1) [] shown became = absurd became
same_numbers seen (b ∷ bs) (b1 ∷ bs1) (b2 ∷ bs2) shown became =
    let rest = same_numbers seen bs bs1 bs2 shown.1 became.1 in (
      ap (λ n. n ∷ map number_of bs2) (ap (λ (x : Client). x.number) (became.0.joined.same ∙ ap (λ (x : Client). record x { kin = became.0.joined.kin }) shown.0.client)) ∙ ap (λ l. number_of b ∷ l) rest.0,
      ap (λ k. k ∷ map (λ (y : StandingBranch). y.body) bs2) (became.0.body ∙ shown.0.body) ∙ ap (λ l. b.body ∷ l) rest.1,
    )

can_all : (c : Client) (of : Name) (bs : List StandingBranch) → AllByRecursion (StaysOf c of) bs → AllByRecursion (λ (b : StandingBranch). MeetsLink b.view) bs → AllByRecursion (CanMerge c.net) bs
can_all c of [] stay met = tt
can_all c of (b ∷ bs) stay met = ((stay.0.none_out, stay.0.net, met.0), can_all c of bs stay.1 met.1)

module _ (of : Name) (v w1 w2 : ClientView) (bs0 bs1 bs2 : List StandingBranch) (legal : Legal v.client.setting v.seen) (began : BeganInTurn v of bs0 w1) (shown : InPairs (WasShown w1.seen) bs0 bs1) (same : w2.client ≡ w1.client) (became : InPairs Became bs1 bs2) where
  abbrev c : Client
  c = v.client

  abbrev itself : WithOut c c
  itself = (c.out, refl)

  abbrev bs : List Branch
  bs = map branch_in bs2

  numbers : map number_of bs2 ≡ map number_of bs0
  numbers = (same_numbers w1.seen bs0 bs1 bs2 shown became).0

  fresh : AreFresh (map number_of bs2) c.out
  fresh = subst (λ ns. AreFresh ns c.out) (sym numbers) (began_fresh c of v w1 bs0 c.out refl began)

  w2_is : w2.client ≡ record c { out = out_with (map number_of bs2) c.out }
  w2_is = same ∙ began_out c of v w1 bs0 c.out refl began ∙ ap (λ ns. record c { out = out_with ns c.out }) (sym numbers)

  pub all_out : AllByRecursion (λ (b : StandingBranch). MeetsLink b.view) bs2 → AreOut w2.client.out w2.client.net bs2
  all_out met = subst (λ (x : Client). AreOut x.out x.net bs2) (sym w2_is) (are_out c.net bs2 c.out fresh (can_all c of bs2 (all_stay c of v w1 w1.seen bs0 bs1 bs2 itself began shown became) met))

  module _ (made : Made w1.client [] w1.seen w2.seen) (w3 : ClientView) (merged : MergedInTurn w2 bs2 w3) where
    out_too : WithOut c w1.client
    out_too = (out_with (map number_of bs0) c.out, began_out c of v w1 bs0 c.out refl began)

    same_out : WithOut c w2.client
    same_out = (out_with (map number_of bs2) c.out, w2_is)

    shown_made : Made c [] w1.seen w2.seen
    shown_made = still_same c w1.client [] w1.seen w2.seen out_too made

    merged_since : Made c [] w2.seen w3.seen
    merged_since = still_same c w2.client [] w2.seen w3.seen same_out (merged_made w2 w3 bs2 (subst (λ (x : Client). Legal x.setting w2.seen) (sym w2_is) shown_made.legal) merged)

    since : Made c [] w1.seen w3.seen
    since = made_both c w1.seen w2.seen w3.seen shown_made merged_since

    began_since : Made c [] v.seen w1.seen
    began_since = began_made c of v w1 bs0 itself legal began

    pub whole_made : Made c [] v.seen w3.seen
    whole_made = made_both c v.seen w1.seen w3.seen began_since since

    pub client_is : w3.client ≡ with_all c bs
    client_is =
        merged_client w2 w3 bs2 merged ∙ ap (λ (x : Client). record x { kin = x.kin ++ Rattle.qc_interp.specs.Branches.seats_of bs; out = merged_out bs2 x.out }) w2_is
        ∙ ap (λ o. record c { kin = c.kin ++ Rattle.qc_interp.specs.Branches.seats_of bs; out = o }) (all_merged bs2 c.out fresh)

    settings : AllByRecursion (λ (b : StandingBranch). b.view.client.setting ≡ w2.client.setting) bs2
    settings = by_list bs2 (all_stay c of v w1 w1.seen bs0 bs1 bs2 itself began shown became)
      where
        by_list : (l : List StandingBranch) → AllByRecursion (StaysOf c of) l → AllByRecursion (λ (b : StandingBranch). b.view.client.setting ≡ w2.client.setting) l
        by_list [] all = tt
        by_list (b ∷ l) all = (all.0.setting ∙ sym (ap (λ (x : Client). x.setting) w2_is), by_list l all.1)

    pub no_more : AllByRecursion (MadeNoMore w3.seen) bs2
    no_more = merged_each w2 w3 bs2 settings merged

    started : StartedInTurn c of v.seen bs w1.seen
    started = all_started c of v w1 bs0 bs1 bs2 itself legal began shown became

    pub the_row : (reach : Reach) (Stopped : Branch → Type 0) → MergedSome w3 → AllByRecursion (λ b. RanTries reach (Stopped b) b.client b.body w3.seen) bs → RanRow reach Stopped c of v.seen w1.seen w3.seen bs
    the_row reach Stopped some ran = record {
      made = whole_made;
      shown_later = made_later c [] v.seen w1.seen began_since;
      since = made_later c [] w1.seen w3.seen since;
      apart = subst (λ (x : Client). Rattle.std.specs.List.IsDistinct (λ a b. Rattle.std.specs.Prelude.◌==◌ a b) (x.number ∷ x.kin)) client_is some.apart;
      begun = started_begun c of v.seen [] bs w1.seen started;
      in_order = started_in_order c of v.seen bs w1.seen legal started;
      ran = ran;
    }
