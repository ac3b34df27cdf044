-- Branches that started one after another: by which time each had made its start alone.
use Rattle.std.proofs.Common.{◌≡◌, ℕ, true, false, List, [], ◌∷◌, ◌++◌, map, reverse, refl, sym, ap, ◌∙◌, subst, append_assoc}
use Rattle.std.specs.Prelude.{◌||◌, ◌==◌}
use Rattle.std.specs.List.{AllByRecursion, list_any}
use Rattle.std.proofs.lemmas.List.{append_cancel_right, reverse-append}
use Rattle.std.proofs.lemmas.List.Elements.{filter-append}
use Rattle.std.proofs.lemmas.List.Folds.{list_any-append}
use Rattle.qc_event.specs.declared.event.Entry.{Entry}
use Rattle.qc_event.specs.History.{Past, Name, is_child}
use Rattle.qc_event.specs.Legal.{Legal}
use Rattle.qc_script.specs.Client.{Client, mine, is_own, branch_of, Made}
use Rattle.qc_interp.specs.Branches.{Branch, seats_of, with_all, start_of, IsBegun}
use Rattle.qc_interp.proofs.Scopes.Growth.{made_is, made_itself, made_both}
use Rattle.qc_interp.proofs.Branching.Joined.{mine_alike}
use Rattle.qc_interp.proofs.Branching.MadeBy.{NoneOf, NoneIn, none_of, none_mine, none_older, none_alike, owned_more, or_none, made_among}

-- A branch started between two histories, and made nothing more until a later one.
pub record StartedOne (c : Client) (of : Name) (old mid now : Past) (b : Branch) : Type 0 where
  pub client : b.client ≡ record (branch_of c b.client.number of) { kin = b.client.kin }
  pub none : NoneOf b.client old
  pub is_one : is_child of b.first ≡ true
  pub own : Made c [] old mid
  pub made : Made b.client (start_of c b ∷ []) old mid
  pub still : Made b.client [] mid now

abbrev pub StartedInTurn : Client → Name → Past → List Branch → Past → Type 0
StartedInTurn c of old [] now = now ≡ old
StartedInTurn c of old (b ∷ bs) now = (mid : Past) × StartedOne c of old mid now b × StartedInTurn c of mid bs now

-- the client itself made nothing
pub started_made : (c : Client) (of : Name) (old : Past) (bs : List Branch) (now : Past) → Legal c.setting old → StartedInTurn c of old bs now → Made c [] old now
started_made c of old [] now legal h = subst (Made c [] old) (sym h) (made_itself c old legal)
started_made c of old (b ∷ bs) now legal h = made_both c old h.0 now h.1.own (started_made c of h.0 bs now h.1.own.legal h.2)

none_of_both : (b : Client) (ks : List ℕ) (past : Past) → NoneOf b past → NoneIn ks past → NoneIn (b.number ∷ (b.kin ++ ks)) past
none_of_both b ks [] one two = tt
none_of_both b ks (e ∷ past) one two = (list_any-append (λ k. k == e.seat) (b.number ∷ b.kin) ks ∙ ap (λ x. x || list_any (λ k. k == e.seat) ks) one.0 ∙ two.0, none_of_both b ks past one.1 two.1)

in_older : (ks : List ℕ) (newer past : Past) → NoneIn ks (newer ++ past) → NoneIn ks past
in_older ks [] past all = all
in_older ks (e ∷ newer) past all = in_older ks newer past all.1

in_front : (ks : List ℕ) (newer past : Past) → NoneIn ks (newer ++ past) → NoneIn ks newer
in_front ks [] past all = tt
in_front ks (e ∷ newer) past all = (all.0, in_front ks newer past all.1)

no_seats : (past : Past) → NoneIn [] past
no_seats [] = tt
no_seats (e ∷ past) = (refl, no_seats past)

-- nothing stood under their seats before they started
pub started_none : (c : Client) (of : Name) (old : Past) (bs : List Branch) (now : Past) → StartedInTurn c of old bs now → NoneIn (seats_of bs) old
started_none c of old [] now h = no_seats old
started_none c of old (b ∷ bs) now h = none_of_both b.client (seats_of bs) old h.1.none (in_older (seats_of bs) h.1.own.newer old (subst (NoneIn (seats_of bs)) h.1.own.grown (started_none c of h.0 bs now h.2)))

-- WHAT ALL OF THEM MADE

-- an entry that neither of two own is another's where a third owns it alone
module _ (c b : Client) (ks : List ℕ) where
  abbrev with_both : Client
  with_both = record c { kin = c.kin ++ (b.number ∷ (b.kin ++ ks)) }

  abbrev with_these : Client
  with_these = record c { kin = c.kin ++ ks }

  owns_both : (seat : ℕ) → is_own with_both seat ≡ (is_own c seat || (is_own b seat || list_any (λ k. k == seat) ks))
  owns_both seat = owned_more c (b.number ∷ (b.kin ++ ks)) seat ∙ ap (λ x. is_own c seat || x) (list_any-append (λ k. k == seat) (b.number ∷ b.kin) ks)

  -- where the one made nothing
  without_one : (past : Past) → NoneOf b past → mine with_both past ≡ mine with_these past
  without_one past none = mine_alike with_these with_both past (each past none)
    where
      each : (past : Past) → NoneOf b past → AllByRecursion (λ (e : Entry). is_own with_both e.seat ≡ is_own with_these e.seat) past
      each [] none = tt
      each (e ∷ past) none = (owns_both e.seat ∙ ap (λ x. is_own c e.seat || (x || list_any (λ k. k == e.seat) ks)) none.0 ∙ sym (owned_more c ks e.seat), each past none.1)

  -- where it alone made something
  that_one : (past : Past) → NoneOf c past → NoneIn ks past → mine with_both past ≡ mine b past
  that_one past none others = mine_alike b with_both past (each past none others)
    where
      each : (past : Past) → NoneOf c past → NoneIn ks past → AllByRecursion (λ (e : Entry). is_own with_both e.seat ≡ is_own b e.seat) past
      each [] none others = tt
      each (e ∷ past) none others = (owns_both e.seat ∙ ap (λ x. x || (is_own b e.seat || list_any (λ k. k == e.seat) ks)) none.0 ∙ ap (λ x. is_own b e.seat || x) others.0 ∙ or_none (is_own b e.seat) false refl, each past none.1 others.1)

-- where the others made nothing
pub not_others : (c : Client) (ks : List ℕ) (past : Past) → NoneIn ks past → mine (record c { kin = c.kin ++ ks }) past ≡ mine c past
not_others c ks past none = mine_alike c (record c { kin = c.kin ++ ks }) past (none_alike c ks past none)

pub started_in_order : (c : Client) (of : Name) (old : Past) (bs : List Branch) (now : Past) → Legal c.setting old → StartedInTurn c of old bs now → mine (with_all c bs) now ≡ reverse (map (start_of c) bs) ++ mine c old
started_in_order c of old [] now legal h = not_others c [] now (no_seats now) ∙ ap (mine c) h
started_in_order c of old (b ∷ bs) now legal h =
    let ks = seats_of bs in
    let one = h.1 in
    let mid = h.0 in
    let tail = started_made c of mid bs now one.own.legal h.2 in
    let none_mid = started_none c of mid bs now h.2 in
    let none_old = in_older ks one.own.newer old (subst (NoneIn ks) one.own.grown none_mid) in
    let none_seg = in_front ks one.own.newer old (subst (NoneIn ks) one.own.grown none_mid) in
    let rest = started_in_order c of mid bs now one.own.legal h.2 in
    let d = with_both c b.client ks in
    let e = with_these c b.client ks in
    let at_tail : mine e tail.newer ≡ reverse (map (start_of c) bs) =
    append_cancel_right (mine e tail.newer) (reverse (map (start_of c) bs)) (mine c mid)
    (ap (λ l. mine e tail.newer ++ l) (sym (not_others c ks mid none_mid)) ∙ sym (filter-append _ tail.newer mid) ∙ ap (mine e) (sym tail.grown) ∙ rest)
    in
    let at_seg : mine d one.own.newer ≡ start_of c b ∷ [] =
    that_one c b.client ks one.own.newer (none_of c one.own.newer one.own.made) none_seg ∙ made_among b.client (start_of c b ∷ []) one.own.newer old mid one.own.grown one.made
    in
    let at_old : mine d old ≡ mine c old = without_one c b.client ks old one.none ∙ not_others c ks old none_old in
    let none_tail : NoneOf b.client tail.newer = none_of b.client tail.newer (made_among b.client [] tail.newer mid now tail.grown one.still) in
    ap (mine d) tail.grown ∙ filter-append _ tail.newer mid ∙ ap (λ l. l ++ mine d mid) (without_one c b.client ks tail.newer none_tail ∙ at_tail)
    ∙ ap (λ l. reverse (map (start_of c) bs) ++ l) (ap (mine d) one.own.grown ∙ filter-append _ one.own.newer old ∙ ap (λ l. l ++ mine d old) at_seg ∙ ap (λ l. start_of c b ∷ l) at_old)
    ∙ sym (append_assoc (reverse (map (start_of c) bs)) (start_of c b ∷ []) (mine c old)) ∙ ap (λ l. l ++ mine c old) (sym (reverse-append (start_of c b ∷ []) (map (start_of c) bs)))

-- EACH OF THEM

pub started_begun : (c : Client) (of : Name) (before : Past) (newer : Past) (bs : List Branch) (now : Past) → StartedInTurn c of (newer ++ before) bs now → AllByRecursion (IsBegun c of before now) bs
started_begun c of before newer [] now h = tt
started_begun c of before newer (b ∷ bs) now h =
    let one = h.1 in (
      record {
        client = one.client;
        none = none_older b.client newer before one.none;
        is_one = one.is_one;
        made = made_is b.client [] h.0 now one.still ∙ made_is b.client _ (newer ++ before) h.0 one.made ∙ ap (λ l. start_of c b ∷ l) (none_mine b.client (newer ++ before) one.none);
      },
      started_begun c of before (one.own.newer ++ newer) bs now (subst (λ x. StartedInTurn c of x bs now) (one.own.grown ∙ sym (append_assoc one.own.newer newer before)) h.2),
    )
