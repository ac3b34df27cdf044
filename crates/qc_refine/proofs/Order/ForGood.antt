-- What puts left for good are the tuples of the puts that the root is served.
use Rattle.std.proofs.Common.{◌≡◌, ℕ, true, false, ◌&&◌, ◌||◌, List, [], ◌∷◌, refl, sym, ap, ap₂, ◌∙◌, subst, inl, inr, arith}
use Rattle.std.specs.Prelude.{◌==◌, All, Option, None, Some, not, map, option_to_list, if◌then◌else◌}
use Rattle.std.specs.List.{Contains, list_all}
use Rattle.std.proofs.lemmas.Bool.{eqb-true, eq-eqb, and_parts}
use Rattle.std.proofs.lemmas.List.Elements.{All-nil, All-cons, All-append, Contains-append_left, Contains-append_right}
use Rattle.std.proofs.Math.Bool.{or-true, or-false}
use Rattle.qc_names.specs.Name.{is_ancestor}
use Rattle.qc_config.specs.declared.tuple.Tuple.{Tuple}
use Rattle.qc_event.specs.declared.event.Entry.{Entry}
use Rattle.qc_event.specs.declared.event.Event.{Event}
use Rattle.qc_event.specs.declared.event.Event.TheVariants as event
use Rattle.qc_event.specs.Base.{Setting}
use Rattle.qc_event.specs.Clear.{is_get}
use Rattle.qc_event.specs.Dead.{outcome, is_committed, ancestors}
use Rattle.qc_event.specs.Grants.{MayGrant}
use Rattle.qc_event.specs.History.{Past, Name, Given, every, granted}
use Rattle.qc_event.specs.Legal.{Legal, MayHappen}
use Rattle.qc_event.proofs.OneEntry.{if_is}
use Rattle.qc_event.proofs.RootAndTops.{root_alive}
use Rattle.qc_serial.specs.Visible.{is_visible, served_order}
use Rattle.qc_serial.specs.Walk.{is_open_or_root}
use Rattle.qc_serial.proofs.Accesses.{granted_step, grant_stays, grant_now}
use Rattle.qc_serial.proofs.MossVisible.{visible, all, sees}
use Rattle.qc_refine.specs.Final.{is_for_good, put_for_good}

-- WHAT THE ROOT SEES

root_passes : (past : Past) → (is_committed (outcome past []) || (is_ancestor [] [] && is_open_or_root past [])) ≡ true
root_passes past = or-true (is_committed (outcome past []))

others_pass : (past : Past) (x : ℕ) (ns : List Name) → list_all (λ a. is_committed (outcome past a) || (is_ancestor a [] && is_open_or_root past a)) (map (λ a. x ∷ a) ns) ≡ list_all (λ a. is_committed (outcome past a)) (map (λ a. x ∷ a) ns)
others_pass past x [] = refl
others_pass past x (n ∷ ns) = ap₂ (λ b c. b && c) (or-false (is_committed (outcome past (x ∷ n)))) (others_pass past x ns)

-- the root sees what is committed for good
pub root_sees : (past : Past) (n : Name) → is_visible past n [] ≡ is_for_good past n
root_sees past [] = ap (λ b. b && true) (root_passes past)
root_sees past (x ∷ xs) = ap₂ (λ b c. b && c) (root_passes past) (others_pass past x (ancestors xs))

-- EVERY PUT

put_is : (past : Past) (rec : ℕ) (g : Given) → g.grant.rec ≡ rec → is_get g.grant.op ≡ false → is_for_good past g.grant.access ≡ true → put_for_good past rec (event.Granted g.copy g.grant) ≡ Some g.grant.tuple
put_is past rec g of_record put good =
    ap (λ b. if b then Some g.grant.tuple else None)
    (ap₂ (λ a b. a && b) (ap₂ (λ a b. a && not b) (eq-eqb g.grant.rec rec of_record) put) good)

-- a tuple that an entry gives is among all that are given
among : (f : Entry → Option Tuple) (past : Past) (n : Name) (g : Given) (t : Tuple) → granted past n ≡ Some g → ((e : Entry) → e.event ≡ event.Granted g.copy g.grant → f e ≡ Some t) → Contains (every f past) t
among f [] n g t is gives = absurd cc
among f (e ∷ past) n g t is gives = elim (granted_step e past n g is) [
  | inl old ↦ Contains-append_left (every f past) (option_to_list (f e)) t (among f past n g t old gives)
  | inr new ↦ Contains-append_right (every f past) (option_to_list (f e)) t (subst (λ o. Contains (option_to_list o) t) (sym (gives e new.0)) (0, omega arith, refl))
]

-- what holds of the tuple of each put for good that its access was granted holds of all
each_put : (setting : Setting) (whole past : Past) (rec : ℕ) (P : Tuple → Type 0) → Legal setting past
    → ((g : Given) (t : Tuple) → granted past g.grant.access ≡ Some g → put_for_good whole rec (event.Granted g.copy g.grant) ≡ Some t → P t)
    → All P (every (λ e. put_for_good whole rec e.event) past)
each_put setting whole [] rec P legal holds = All-nil P
each_put setting whole (e ∷ past) rec P legal holds =
    All-append P (every (λ x. put_for_good whole rec x.event) past) (option_to_list (put_for_good whole rec e.event))
    (each_put setting whole past rec P legal.0 (λ g t is. holds g t (grant_stays e past g.grant.access g is)))
    (here e.event refl)
  where
    if_some : (o : Option Tuple) → ((t : Tuple) → o ≡ Some t → P t) → All P (option_to_list o)
    if_some None each = All-nil P
    if_some (Some t) each = All-cons P t [] (each t refl) (All-nil P)

    here : (ev : Event) → e.event ≡ ev → All P (option_to_list (put_for_good whole rec ev))
    here (event.Granted copy grant) is =
        let g : Given = record { copy = copy; grant = grant } in
        let may : MayGrant setting past e.seat copy grant = subst (MayHappen setting past e.seat) is legal.1 in
        if_some (put_for_good whole rec (event.Granted copy grant)) (λ t puts. holds g t (grant_now e past g is may.first_time) puts)
    here _ is = All-nil P

-- THE ROOT'S PUTS

module _ (setting : Setting) (past : Past) (legal : Legal setting past) (rec : ℕ) where
  -- what holds of the tuple of each grant of the record that the root is served holds of each put for good
  pub puts_are : (P : Tuple → Type 0) → ((g : Given) → Contains (served_order past []) g → g.grant.rec ≡ rec → P g.grant.tuple) → All P (every (λ e. put_for_good past rec e.event) past)
  puts_are P holds = each_put setting past past rec P legal (λ g t is puts. by_test g t is (if_is _ g.grant.tuple t puts))
    where
      by_test : (g : Given) (t : Tuple) → granted past g.grant.access ≡ Some g → (((g.grant.rec == rec) && not (is_get g.grant.op) && is_for_good past g.grant.access) ≡ true) × (g.grant.tuple ≡ t) → P t
      by_test g t is parts =
          let both = and_parts ((g.grant.rec == rec) && not (is_get g.grant.op)) (is_for_good past g.grant.access) parts.0 in
          let put = and_parts (g.grant.rec == rec) (not (is_get g.grant.op)) both.0 in
          let shown = sees setting past [] legal tt (root_alive setting past legal) g is (root_sees past g.grant.access ∙ both.1) in
          subst P parts.1 (holds g (all setting past [] legal tt (root_alive setting past legal) g shown) (eqb-true g.grant.rec rec put.0))

  -- and each put of the record that the root is served is for good
  pub puts_among : (g : Given) → Contains (served_order past []) g → g.grant.rec ≡ rec → is_get g.grant.op ≡ false → Contains (every (λ e. put_for_good past rec e.event) past) g.grant.tuple
  puts_among g served of_record put =
      let shown = visible setting past [] legal tt (root_alive setting past legal) g served in
      among (λ e. put_for_good past rec e.event) past g.grant.access g g.grant.tuple shown.was_granted
      (λ e is. ap (put_for_good past rec) is ∙ put_is past rec g of_record put (sym (root_sees past g.grant.access) ∙ shown.seen_by))
