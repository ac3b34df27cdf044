-- What a copy's disk goes on to keep of its grants.
use Rattle.std.proofs.Common.{◌≡◌, ◌⊎◌, inl, inr, ℕ, zero, suc, ◌<◌, ◌≤◌, Bool, true, false, List, [], ◌∷◌, ◌++◌, length, map, drop, refl, sym, ap, ap₂, ◌∙◌, subst, arith, append_assoc, append-nil}
use Rattle.std.specs.Prelude.{Option, None, Some, IfSome, IfOk, IfErr, OnOk, OnErr, Result, Ok, Err, option_to_list, slice_get, slice_index_or, if◌then◌else◌}
use Rattle.std.specs.List.{All}
use Rattle.std.specs.Option.{option_map}
use Rattle.std.proofs.lemmas.List.{drop_at, map-append, length-append, length-map}
use Rattle.std.proofs.lemmas.List.Elements.{All-nil, All-cons, All-head, All-tail, All-append}
use Rattle.qc_codec.specs.Bodies as body
use Rattle.qc_codec.specs.Fields.{current}
use Rattle.qc_codec.specs.Form.{all_of}
use Rattle.qc_codec.proofs.Bodies.{exact_grant}
use Rattle.qc_codec.proofs.Exact.{all_again}
use Rattle.std.proofs.lemmas.Option.{same_Some}
use Rattle.qc_disk.specs.declared.disk.Disk.{Ghosts}
use Rattle.qc_event.specs.declared.event.Grant.{Grant}
use Rattle.qc_journal.specs.Image.{HasRecords}
use Rattle.qc_disk.specs.Disk.{CountsOnce, HasCause, IsImage}
use Rattle.qc_journal.specs.declared.fault.Fault.{Fault}
use Rattle.qc_journal.specs.declared.fault.Fault.TheVariants as fault
use Rattle.qc_journal.specs.Journal.{in_hand, with_hand, AppendLeaves, IsDown, IsUp, Keeps, TakesInHand}
use Rattle.qc_journal.specs.declared.journal.Journal.{Journal}
use Rattle.qc_site.specs.Back.{grant_body, AreGrants, IsAnswer, IsFirstApart, IsFirstUnread, WereFound, IsLeft, IsPlain, IsWithHand, Says, Stand}
use Rattle.qc_ledger.proofs.Logging.{up_by}
use Rattle.qc_site.specs.Log.{IsOver}
use Rattle.qc_site.specs.declared.back.BackNo.{BackNo}
use Rattle.qc_site.specs.declared.back.BackNo.TheVariants as no_back
use Rattle.qc_site.specs.declared.back.Strange.TheVariants.{Broken, Grammar, Short, Differs}
use Rattle.qc_site.specs.declared.log.GrantLog.{GrantLog}
use Rattle.qc_site.proofs.Found.{found_by, never_broken, nothing_in_hand, told_stands}

-- LISTS

abbrev tail_of : {A : Type 0} → List A → List A
tail_of [] = []
tail_of (x ∷ xs) = xs

tail_is : {A : Type 0} (xs ys zs : List A) → xs ++ ys ≡ xs ++ zs → ys ≡ zs
tail_is [] ys zs is = is
tail_is (x ∷ xs) ys zs is = tail_is xs ys zs (ap tail_of is)

map_is : (gs xs : List Grant) → map Some xs ≡ map Some gs → gs ≡ xs
map_is [] [] is = refl
map_is (g ∷ gs) [] is = absurd cc
map_is [] (x ∷ xs) is = absurd cc
map_is (g ∷ gs) (x ∷ xs) is =
    let heads : Some x ≡ Some g = cc in
    let rests : map Some xs ≡ map Some gs = cc in
    ap₂ (λ (y : Grant) (ys : List Grant). y ∷ ys) (sym (same_Some x g heads)) (map_is gs xs rests)

-- GRANTS THAT ARE READ AGAIN

module _ (copies : ℕ) where
  abbrev Fit : Grant → Type 0
  Fit = (body.grant (current copies)).fits

  read_again : (xs : List Grant) → All Fit xs → map (all_of (body.grant (current copies))) (map (grant_body copies) xs) ≡ map Some xs
  read_again [] fit = refl
  read_again (x ∷ xs) fit =
      ap₂ (λ (o : Option Grant) (os : List (Option Grant)). o ∷ os) (all_again (body.grant (current copies)) (exact_grant (current copies)) x (All-head Fit x xs fit)) (read_again xs (All-tail Fit x xs fit))

  -- what is read is what was spelled
  same_grants : (gs xs : List Grant) → All Fit xs → AreGrants copies gs (map (grant_body copies) xs) → gs ≡ xs
  same_grants gs xs fit are = map_is gs xs (sym (read_again xs fit) ∙ are)

  none_unread : (i : ℕ) (xs : List Grant) → All Fit xs → IsFirstUnread copies i (map (grant_body copies) xs) → ⊥
  none_unread i xs fit unread = at i xs fit (subst (λ n. i < n) (length-map xs (grant_body copies)) unread.0) unread.1
    where
      at : (i : ℕ) (xs : List Grant) → All Fit xs → i < length xs → all_of (body.grant (current copies)) (slice_index_or (map (grant_body copies) xs) i []) ≡ None → ⊥
      at i [] fit less none = absurd (omega arith)
      at zero (x ∷ xs) fit less none = let read = all_again (body.grant (current copies)) (exact_grant (current copies)) x (All-head Fit x xs fit) in cc
      at (suc i) (x ∷ xs) fit less none = at i xs (All-tail Fit x xs fit) (omega arith) none

-- WHAT IS FOUND

-- What was found of a log: records from before, then one for each of these grants, and maybe one for the grant in hand.
pub record IsSpelled (copies earlier : ℕ) (before : List (List ℕ)) (given : List Grant) (hand : Option Grant) (found : List (List ℕ)) : Type 0 where
  pub rest : List Grant
  pub is_hand : (rest ≡ []) ⊎ (rest ≡ option_to_list hand)
  pub is : found ≡ before ++ map (grant_body copies) (given ++ rest)
  pub size : earlier ≡ length before
  pub fits : All (Fit copies) (given ++ rest)
  pub hand_fits : All (Fit copies) (given ++ option_to_list hand)

fits_rest : (copies : ℕ) (given rest : List Grant) (hand : Option Grant) → (rest ≡ []) ⊎ (rest ≡ option_to_list hand) → All (Fit copies) (given ++ option_to_list hand) → All (Fit copies) (given ++ rest)
fits_rest copies given rest hand (inr is) fit = subst (λ (r : List Grant). All (Fit copies) (given ++ r)) (sym is) fit
fits_rest copies given rest hand (inl is) fit = subst (λ (r : List Grant). All (Fit copies) (given ++ r)) (sym is) (subst (All (Fit copies)) (sym (append-nil given)) (front given fit))
  where
    front : (xs : List Grant) → All (Fit copies) (xs ++ option_to_list hand) → All (Fit copies) xs
    front [] all = All-nil (Fit copies)
    front (x ∷ xs) all = All-cons (Fit copies) x xs (All-head (Fit copies) x (xs ++ option_to_list hand) all) (front xs (All-tail (Fit copies) x (xs ++ option_to_list hand) all))

one_more : (copies : ℕ) (before : List (List ℕ)) (given : List Grant) (h : Grant) → (before ++ map (grant_body copies) (given ++ [])) ++ grant_body copies h ∷ [] ≡ before ++ map (grant_body copies) (given ++ h ∷ [])
one_more copies before given h =
    append_assoc before (map (grant_body copies) (given ++ [])) (grant_body copies h ∷ [])
    ∙ ap (λ (l : List (List ℕ)). before ++ l) (ap (λ (l : List Grant). map (grant_body copies) l ++ grant_body copies h ∷ []) (append-nil given) ∙ sym (map-append (grant_body copies) given (h ∷ [])))

module _ {D : Type 0} {g : Ghosts D} (before : List (List ℕ)) (log : GrantLog D g) (given : List Grant) (hand : Option Grant) (k : IsOver before log given hand) where
  abbrev bodies : List (List ℕ)
  bodies = before ++ map (grant_body log.copies) (given ++ k.rest)

  as_before : (found : List (List ℕ)) → found ≡ bodies → IsSpelled log.copies log.earlier before given hand found
  as_before found is = record {
    rest = k.rest;
    is_hand = k.is_hand;
    is = is;
    size = k.size;
    fits = fits_rest log.copies given k.rest hand k.is_hand k.fits;
    hand_fits = k.fits;
  }

  with_one : (found : List (List ℕ)) (h : Grant) → hand ≡ Some h → k.rest ≡ [] → found ≡ bodies ++ grant_body log.copies h ∷ [] → IsSpelled log.copies log.earlier before given hand found
  with_one found h here nil is =
      let list : h ∷ [] ≡ option_to_list hand = ap option_to_list (sym here) in
      record {
        rest = h ∷ [];
        is_hand = inr list;
        is = is ∙ ap (λ (r : List Grant). (before ++ map (grant_body log.copies) (given ++ r)) ++ grant_body log.copies h ∷ []) nil ∙ one_more log.copies before given h;
        size = k.size;
        fits = fits_rest log.copies given (h ∷ []) hand (inr list) k.fits;
        hand_fits = k.fits;
      }

  pub spelled : (found : List (List ℕ)) → WereFound bodies (in_hand log.journal) found → IsSpelled log.copies log.earlier before given hand found
  spelled found (inl is) = as_before found is
  spelled found (inr is) = by_journal k.in_journal
    where
      by_hand : (o : Option Grant) → hand ≡ o → k.rest ≡ [] → found ≡ with_hand bodies (option_map (grant_body log.copies) o) → IsSpelled log.copies log.earlier before given hand found
      by_hand None here nil at = as_before found at
      by_hand (Some h) here nil at = with_one found h here nil at

      by_journal : (in_hand log.journal ≡ None) ⊎ ((in_hand log.journal ≡ option_map (grant_body log.copies) hand) × (k.rest ≡ [])) → IsSpelled log.copies log.earlier before given hand found
      by_journal (inl none) = as_before found (is ∙ ap (with_hand bodies) none)
      by_journal (inr (at, nil)) = by_hand hand refl nil (is ∙ ap (with_hand bodies) at)

-- what the records behind the older ones say
module _ (copies earlier : ℕ) (before : List (List ℕ)) (given : List Grant) (hand : Option Grant) (found : List (List ℕ)) (s : IsSpelled copies earlier before given hand found) where
  behind : drop earlier found ≡ map (grant_body copies) (given ++ s.rest)
  behind = ap (drop earlier) s.is ∙ drop_at before (map (grant_body copies) (given ++ s.rest)) earlier (sym s.size)

  read : (gs : List Grant) → Stand copies earlier given hand found gs → gs ≡ given ++ s.rest
  read gs stand = same_grants copies gs (given ++ s.rest) s.fits (subst (AreGrants copies gs) behind stand.1)

  pub rest_with : Says copies earlier given hand found (Ok true) → s.rest ≡ option_to_list hand
  rest_with (gs, stand, with) = by_hand hand (subst (IsWithHand given hand) (read gs stand) with)
    where
      by_hand : (o : Option Grant) → IsWithHand given o (given ++ s.rest) → s.rest ≡ option_to_list o
      by_hand None is = absurd is
      by_hand (Some h) is = tail_is given s.rest (h ∷ []) is

  pub rest_without : Says copies earlier given hand found (Ok false) → s.rest ≡ []
  rest_without stand = sym (tail_is given [] s.rest (append-nil given ∙ read given stand))

  long : earlier ≤ length found
  long = omega (arith, s.size, ap length s.is, length-append before (map (grant_body copies) (given ++ s.rest)))

  never_apart : (index : ℕ) (gs : List Grant) → gs ≡ given ++ s.rest → IsFirstApart index gs given → (IsWithHand given hand gs → ⊥) → ⊥
  never_apart index gs is apart without = by_rest s.is_hand
    where
      by_hand : (o : Option Grant) → hand ≡ o → s.rest ≡ option_to_list o → ⊥
      by_hand None here nil = apart.1 (ap (λ (l : List Grant). slice_get l index) (is ∙ ap (λ (r : List Grant). given ++ r) nil ∙ append-nil given))
      by_hand (Some h) here one = without (subst (λ o. IsWithHand given o gs) (sym here) (is ∙ ap (λ (r : List Grant). given ++ r) one))

      by_rest : (s.rest ≡ []) ⊎ (s.rest ≡ option_to_list hand) → ⊥
      by_rest (inl nil) = apart.1 (ap (λ (l : List Grant). slice_get l index) (is ∙ ap (λ (r : List Grant). given ++ r) nil ∙ append-nil given))
      by_rest (inr one) = by_hand hand refl one

  -- nothing is strange
  pub plain_says : (refusal : BackNo) → Says copies earlier given hand found (Err refusal) → IsPlain refusal
  plain_says no_back.Disk says = tt
  plain_says no_back.Memory says = tt
  plain_says (no_back.Strange (Broken place)) says = says
  plain_says (no_back.Strange (Grammar index)) says = none_unread copies says.1.0 (given ++ s.rest) s.fits (subst (IsFirstUnread copies says.1.0) behind says.1.2)
  plain_says (no_back.Strange (Short records had)) says = absurd (omega (arith, says.0, says.1, says.2, long))
  plain_says (no_back.Strange (Differs index disk desk)) says = never_apart index says.0 (read says.0 says.1) says.2 says.5

-- AFTER A READING

module _ {D : Type 0} {g : Ghosts D} (before : List (List ℕ)) (old new : GrantLog D g) (given : List Grant) (hand : Option Grant) (k : IsOver before old given hand) (same : new.copies ≡ old.copies) (size : new.earlier ≡ old.earlier) where
  pub read_over : (stands : Bool) → IsUp new.journal → (l : IsLeft old.journal new.journal (before ++ map (grant_body old.copies) (given ++ k.rest))) → Says old.copies old.earlier given hand l.found (Ok stands)
      → IsOver before new given (if stands then hand else None)
  read_over stands up l says = by_answer stands says
    where
      s : IsSpelled old.copies old.earlier before given hand l.found
      s = spelled before old given hand k l.found l.is

      keeps : Keeps new.journal (before ++ map (grant_body new.copies) (given ++ s.rest))
      keeps = subst (λ c. Keeps new.journal (before ++ map (grant_body c) (given ++ s.rest))) (sym same) (subst (Keeps new.journal) s.is l.keeps)

      over : (now : Option Grant) → s.rest ≡ option_to_list now → All (Fit old.copies) (given ++ option_to_list now) → IsOver before new given now
      over now rest fits = record {
        rest = s.rest;
        is_hand = inr rest;
        up = λ _. rest;
        keeps = keeps;
        in_journal = inl (nothing_in_hand new.journal up);
        size = size ∙ k.size;
        fits = subst (λ c. All (Fit c) (given ++ option_to_list now)) (sym same) fits;
      }

      by_answer : (b : Bool) → Says old.copies old.earlier given hand l.found (Ok b) → IsOver before new given (if b then hand else None)
      by_answer true says = over hand (rest_with old.copies old.earlier before given hand l.found s says) k.fits
      by_answer false says =
          let nil = rest_without old.copies old.earlier before given hand l.found s says in
          over None nil (fits_rest old.copies given [] hand (inl refl) k.fits)

  -- one that fails, and is taken down
  pub failed_over : (mid : Journal D g) → IsLeft old.journal mid (before ++ map (grant_body old.copies) (given ++ k.rest)) → IsDown new.journal → in_hand new.journal ≡ in_hand mid
      → ((bodies : List (List ℕ)) → Keeps mid bodies → Keeps new.journal bodies) → IsOver before new given hand
  failed_over mid l down closed kept = by_hand l.hand
    where
      fits : All (Fit new.copies) (given ++ option_to_list hand)
      fits = subst (λ c. All (Fit c) (given ++ option_to_list hand)) (sym same) k.fits

      over : (rest : List Grant) → (rest ≡ []) ⊎ (rest ≡ option_to_list hand) → l.found ≡ before ++ map (grant_body old.copies) (given ++ rest)
          → ((in_hand mid ≡ None) ⊎ ((in_hand mid ≡ option_map (grant_body old.copies) hand) × (rest ≡ []))) → IsOver before new given hand
      over rest is_hand is held = record {
        rest = rest;
        is_hand = is_hand;
        up = λ up. absurd (down up);
        keeps = subst (λ c. Keeps new.journal (before ++ map (grant_body c) (given ++ rest))) (sym same) (subst (Keeps new.journal) is (kept l.found l.keeps));
        in_journal = by_journal held;
        size = size ∙ k.size;
        fits = fits;
      }
        where
          by_journal : (in_hand mid ≡ None) ⊎ ((in_hand mid ≡ option_map (grant_body old.copies) hand) × (rest ≡ [])) → (in_hand new.journal ≡ None) ⊎ ((in_hand new.journal ≡ option_map (grant_body new.copies) hand) × (rest ≡ []))
          by_journal (inl none) = inl (closed ∙ none)
          by_journal (inr (at, nil)) = inr (closed ∙ at ∙ ap (λ c. option_map (grant_body c) hand) (sym same), nil)

      by_hand : (in_hand mid ≡ None) ⊎ ((in_hand mid ≡ in_hand old.journal) × (l.found ≡ before ++ map (grant_body old.copies) (given ++ k.rest))) → IsOver before new given hand
      by_hand (inl none) = let s = spelled before old given hand k l.found l.is in over s.rest s.is_hand s.is (inl none)
      by_hand (inr (held, is)) = over k.rest k.is_hand is (as_old k.in_journal)
        where
          as_old : (in_hand old.journal ≡ None) ⊎ ((in_hand old.journal ≡ option_map (grant_body old.copies) hand) × (k.rest ≡ [])) → (in_hand mid ≡ None) ⊎ ((in_hand mid ≡ option_map (grant_body old.copies) hand) × (k.rest ≡ []))
          as_old (inl none) = inl (held ∙ none)
          as_old (inr (at, nil)) = inr (held ∙ at, nil)

-- each answer of a reading that does not stand
pub read_each : {D : Type 0} {g : Ghosts D} (old new : GrantLog D g) (given : List Grant) (hand : Option Grant) (r : Result Bool BackNo) → new.copies ≡ old.copies → new.earlier ≡ old.earlier → OnOk r (IsUp new.journal)
    → IfOk r (λ stands. (bodies : List (List ℕ)) → Keeps old.journal bodies → (l : IsLeft old.journal new.journal bodies) × Says old.copies old.earlier given hand l.found (Ok stands))
    → IfOk r (λ stands. (before : List (List ℕ)) → IsOver before old given hand → IsOver before new given (if stands then hand else None))
read_each old new given hand (Err e) same size up keeps = tt
read_each old new given hand (Ok stands) same size up keeps = λ before k. let l = keeps _ k.keeps in read_over before old new given hand k same size stands up l.0 l.1

pub failed_each : {D : Type 0} {g : Ghosts D} (old new : GrantLog D g) (mid : Journal D g) (given : List Grant) (hand : Option Grant) (r : Result Bool BackNo) → new.copies ≡ old.copies → new.earlier ≡ old.earlier
    → IsDown new.journal → in_hand new.journal ≡ in_hand mid → ((bodies : List (List ℕ)) → Keeps mid bodies → Keeps new.journal bodies)
    → OnErr r ((bodies : List (List ℕ)) → Keeps old.journal bodies → IsLeft old.journal mid bodies)
    → OnErr r ((before : List (List ℕ)) → IsOver before old given hand → IsOver before new given hand)
failed_each old new mid given hand (Ok stands) same size down closed kept left = tt
failed_each old new mid given hand (Err e) same size down closed kept left = λ before k. failed_over before old new given hand k same size mid (left _ k.keeps) down closed kept

-- over a disk that tells, nothing is strange
pub plain_each : {D : Type 0} {g : Ghosts D} (old : GrantLog D g) (before : List (List ℕ)) (given : List Grant) (hand : Option Grant) (law : IsImage (g.view old.journal.disk).content (g.view old.journal.disk).may_leave) (r : Result Bool BackNo)
    → IsOver before old given hand → IfSome (g.view old.journal.disk).content (IsAnswer old.copies old.earlier given hand r) → IfErr r IsPlain
plain_each old before given hand law (Ok stands) k says = tt
plain_each {D} {g} old before given hand law (Err refusal) k says = by_answer refusal (subst (λ o. IfSome o (IsAnswer old.copies old.earlier given hand (Err refusal))) k.keeps.told says)
  where
    by_records : (refusal : BackNo) (bodies : List (List ℕ)) → HasRecords bodies k.keeps.bytes → Says old.copies old.earlier given hand bodies (Err refusal) → IsPlain refusal
    by_records refusal bodies has says =
        let is = found_by old.journal.place _ bodies (in_hand old.journal) k.keeps.bytes (told_stands old.journal _ k.keeps law) has in
        plain_says old.copies old.earlier before given hand bodies (spelled before old given hand k bodies is) refusal says

    by_answer : (refusal : BackNo) → IsAnswer old.copies old.earlier given hand (Err refusal) k.keeps.bytes → IsPlain refusal
    by_answer no_back.Disk says = tt
    by_answer no_back.Memory says = tt
    by_answer (no_back.Strange (Broken place)) says = never_broken old.journal _ k.keeps law place says
    by_answer (no_back.Strange (Grammar index)) says = by_records (no_back.Strange (Grammar index)) says.0 says.1 says.2
    by_answer (no_back.Strange (Short records had)) says = by_records (no_back.Strange (Short records had)) says.0 says.1 says.2
    by_answer (no_back.Strange (Differs index disk desk)) says = by_records (no_back.Strange (Differs index disk desk)) says.0 says.1 says.2

-- WRITING

module _ {D : Type 0} {g : Ghosts D} (old new : GrantLog D g) (grant : Grant) (same : new.copies ≡ old.copies) (size : new.earlier ≡ old.earlier) (fits : Fit old.copies grant) where
  -- the records before, and the grant
  longer : (before : List (List ℕ)) (given : List Grant) (rest : List Grant) → rest ≡ [] → (before ++ map (grant_body old.copies) (given ++ rest)) ++ grant_body old.copies grant ∷ [] ≡ before ++ map (grant_body old.copies) (given ++ grant ∷ [])
  longer before given rest nil = ap (λ (r : List Grant). (before ++ map (grant_body old.copies) (given ++ r)) ++ grant_body old.copies grant ∷ []) nil ∙ one_more old.copies before given grant

  nothing : (before : List (List ℕ)) (given : List Grant) (k : IsOver before old given None) → k.rest ≡ []
  nothing before given k = elim k.is_hand [ inl nil ↦ nil | inr nil ↦ nil ]

  all_fit : (before : List (List ℕ)) (given : List Grant) (k : IsOver before old given None) → All (Fit new.copies) (given ++ grant ∷ [])
  all_fit before given k = subst (λ c. All (Fit c) (given ++ grant ∷ [])) (sym same)
      (All-append (Fit old.copies) given (grant ∷ []) (subst (All (Fit old.copies)) (append-nil given) k.fits) (All-cons (Fit old.copies) grant [] fits (All-nil (Fit old.copies))))

  pub written_over : IsUp new.journal → ((bodies : List (List ℕ)) → Keeps old.journal bodies → Keeps new.journal (bodies ++ grant_body old.copies grant ∷ []))
      → (before : List (List ℕ)) (given : List Grant) → IsOver before old given None → IsOver before new given (Some grant)
  written_over up adds before given k = record {
    rest = grant ∷ [];
    is_hand = inr refl;
    up = λ _. refl;
    keeps = subst (λ c. Keeps new.journal (before ++ map (grant_body c) (given ++ grant ∷ []))) (sym same) (subst (Keeps new.journal) (longer before given k.rest (nothing before given k)) (adds _ k.keeps));
    in_journal = inl (nothing_in_hand new.journal up);
    size = size ∙ k.size;
    fits = all_fit before given k;
  }

  pub unsure_over : TakesInHand old.journal new.journal (grant_body old.copies grant) → ((bodies : List (List ℕ)) → Keeps old.journal bodies → Keeps new.journal bodies)
      → (before : List (List ℕ)) (given : List Grant) → IsOver before old given None → IsOver before new given (Some grant)
  unsure_over takes kept before given k = record {
    rest = [];
    is_hand = inl refl;
    up = λ up. absurd (takes.down up);
    keeps = subst (λ c. Keeps new.journal (before ++ map (grant_body c) (given ++ []))) (sym same) (subst (λ (r : List Grant). Keeps new.journal (before ++ map (grant_body old.copies) (given ++ r))) (nothing before given k) (kept _ k.keeps));
    in_journal = inr (takes.hand ∙ ap (λ c. Some (grant_body c grant)) (sym same), refl);
    size = size ∙ k.size;
    fits = all_fit before given k;
  }

  pub written_each : {T : Type 0} (r : Result T Fault) → OnOk r (IsUp new.journal) → OnOk r ((bodies : List (List ℕ)) → Keeps old.journal bodies → Keeps new.journal (bodies ++ grant_body old.copies grant ∷ []))
      → OnOk r ((before : List (List ℕ)) (given : List Grant) → IsOver before old given None → IsOver before new given (Some grant))
  written_each (Ok x) up adds = written_over up adds
  written_each (Err e) up adds = tt

  -- after a refusal that took it down
  pub unsure_each : {T : Type 0} (r : Result T Fault) → IsUp old.journal → IfErr r (AppendLeaves old.journal new.journal (grant_body old.copies grant)) → OnErr r ((bodies : List (List ℕ)) → Keeps old.journal bodies → Keeps new.journal bodies)
      → OnErr r (IsDown new.journal → (before : List (List ℕ)) (given : List Grant) → IsOver before old given None → IsOver before new given (Some grant))
  unsure_each (Ok x) up left kept = tt
  unsure_each (Err fault.Disk) up left kept = λ down. unsure_over left kept
  unsure_each (Err (fault.Broken place)) up left kept = λ down. absurd left
  unsure_each (Err (fault.Full place)) up left kept = λ down. absurd (down (subst (λ (j : Journal D g). IsUp j) (sym left.1) up))
  unsure_each (Err fault.Memory) up left kept = λ down. elim left [
    | inl is ↦ absurd (down (subst (λ (j : Journal D g). IsUp j) (sym is) up))
    | inr takes ↦ unsure_over takes kept
  ]

-- THE GRANT IN HAND IS ENTERED

pub entered_over : {D : Type 0} {g : Ghosts D} (before : List (List ℕ)) (log : GrantLog D g) (given : List Grant) (hand : Option Grant) → IsUp log.journal → IsOver before log given hand → IsOver before log (given ++ option_to_list hand) None
entered_over before log given hand up k =
    let all : given ++ k.rest ≡ (given ++ option_to_list hand) ++ [] = ap (λ (r : List Grant). given ++ r) (k.up up) ∙ sym (append-nil (given ++ option_to_list hand)) in
    record {
      rest = [];
      is_hand = inl refl;
      up = λ _. refl;
      keeps = subst (λ (gs : List Grant). Keeps log.journal (before ++ map (grant_body log.copies) gs)) all k.keeps;
      in_journal = inl (nothing_in_hand log.journal up);
      size = k.size;
      fits = subst (All (Fit log.copies)) (sym (append-nil (given ++ option_to_list hand))) k.fits;
    }

-- the same grants and the same grant in hand
pub same_over : {D : Type 0} {g : Ghosts D} (before : List (List ℕ)) (log : GrantLog D g) (given now : List Grant) (hand held : Option Grant) → now ≡ given → held ≡ hand → IsOver before log given hand → IsOver before log now held
same_over before log given now hand held same is k = subst (λ (x : List Grant × Option Grant). IsOver before log x.0 x.1) (λ i. (sym same i, sym is i)) k

-- a count of faults over two runs
pub cause_on : (a b c : ℕ) (First Then : Type 0) → HasCause a b First → HasCause b c Then → HasCause a c Then
cause_on a b c First Then one two = record {
  later = omega (arith, one.later, two.later);
  failed = λ failed. let rose = two.failed failed in omega (arith, one.later, rose);
}

-- over two runs of which the first did not raise it
pub once_on : (a b c : ℕ) (Then : Type 0) → b ≡ a → CountsOnce b c Then → CountsOnce a c Then
once_on a b c Then same two = record { once = omega (arith, same, two.once); spared = λ never. two.spared never ∙ same }

-- at first nothing was granted
pub first_over : {D : Type 0} {g : Ghosts D} (before : List (List ℕ)) (log : GrantLog D g) → (IsDown log.journal → ⊥) → Keeps log.journal before → log.earlier ≡ length before → IsOver before log [] None
first_over before log never keeps size = record {
  rest = [];
  is_hand = inl refl;
  up = λ _. refl;
  keeps = subst (Keeps log.journal) (sym (append-nil before)) keeps;
  in_journal = inl (nothing_in_hand log.journal (up_by log.journal.state never));
  size = size;
  fits = All-nil (Fit log.copies);
}
