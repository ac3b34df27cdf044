-- Locks go on to be those of the grants: where an entry is added, an access is granted, a lock goes up, goes, or
-- joins its neighbour or one from before.
use Rattle.std.proofs.Common.{◌≡◌, ◌⊎◌, inl, inr, Bool, true, false, List, [], ◌∷◌, ◌++◌, refl, sym, ap, ◌∙◌, subst, append_assoc, All}
use mathlib.Core.Bool.{true≢false}
use Rattle.std.specs.Prelude.{Option, None, Some, is_some, is_none, ◌&&◌, ◌||◌, if◌then◌else◌}
use Rattle.std.specs.Option.{option_or}
use Rattle.std.proofs.lemmas.List.Elements.{All-head, All-tail, All-cons}
use Rattle.qc_event.proofs.Absent.{same_is}
use Rattle.qc_event.specs.declared.event.Entry.{Entry}
use Rattle.qc_event.specs.declared.event.Grant.{Grant}
use Rattle.qc_event.specs.History.{Past, Name, same}
use Rattle.qc_event.specs.Dead.{dead}
use Rattle.qc_moss.specs.declared.holder.Holder.{Holder}
use Rattle.qc_moss.specs.declared.holder.Put.{Put}
use Rattle.qc_moss.specs.declared.holder.Change.{Change}
use Rattle.qc_config.specs.declared.tuple.Op.{Op}
use Rattle.qc_config.specs.declared.tuple.Op.TheVariants.{Get, PutData, PutConfig}
use Rattle.qc_event.specs.Clear.{is_get}
use Rattle.qc_event.proofs.Histories.{or_first}
use Rattle.qc_moss.specs.Locks.{alone, joined, with_neighbour, with_next, is_read, is_held, held_at}
use Rattle.qc_moss.specs.Follows.{IsAmong, IsInherited, AreOf, HasMoved, Becomes, HoldsStill}
use Rattle.qc_moss.specs.Follows.AreOf.{none, gone, kept, more, read}
use Rattle.qc_moss.proofs.Ancestry.{dead_stays}
use Rattle.qc_moss.proofs.Inheriting.{not_passed, passed_on, inherited_on, dead_down, recast, without_dead, without_again, higher}

-- IN A LIST

-- who holds the locks
abbrev pub ats : List Holder → List Name
ats [] = []
ats (h ∷ held) = h.at ∷ ats held

among_after : (front ks : List Holder) (n : Name) → IsAmong n (ats ks) → IsAmong n (ats (front ++ ks))
among_after [] ks n there = there
among_after (f ∷ front) ks n there = inr (among_after front ks n there)

-- What may follow a front may be replaced; it is known of some that they hold a lock before.
in_front : (past : Past) (xs ys : List Holder) (known : List Name)
    → ((before : List Name) (given : List Grant) → ((n : Name) → IsAmong n known → IsAmong n before) → AreOf past before given xs → AreOf past before given ys)
    → (front : List Holder) (before : List Name) (given : List Grant) (held : List Holder) → ((n : Name) → IsAmong n known → IsAmong n before ⊎ IsAmong n (ats front))
    → AreOf past before given held → held ≡ front ++ xs → AreOf past before given (front ++ ys)
in_front past xs ys known turns [] before given held reach are is = turns before given (λ n there. in_before n (reach n there)) (subst (AreOf past before given) is are)
  where
    in_before : (n : Name) → IsAmong n before ⊎ ⊥ → IsAmong n before
    in_before n (inl here) = here
    in_before n (inr nobody) = absurd nobody
in_front past xs ys known turns (f ∷ front) _ _ _ reach (none before) is = absurd cc
in_front past xs ys known turns (f ∷ front) _ _ _ reach (gone before g given held dies rest) is = gone before g given (f ∷ (front ++ ys)) dies (in_front past xs ys known turns (f ∷ front) before given held reach rest is)
in_front past xs ys known turns (f ∷ front) _ _ _ reach (kept before g at given held i rest) is =
    let head : alone g.access at g.op ≡ f = cc in
    let tail : held ≡ front ++ xs = cc in
    subst (λ h. AreOf past before (g ∷ given) (h ∷ (front ++ ys))) head
    (kept before g at given (front ++ ys) i (in_front past xs ys known turns front (at ∷ before) given held (λ n there. passed n (ap (λ (x : Holder). x.at) (sym head)) (reach n there)) rest tail))
  where
    passed : (n : Name) → f.at ≡ at → IsAmong n before ⊎ ((n ≡ f.at) ⊎ IsAmong n (ats front)) → ((n ≡ at) ⊎ IsAmong n before) ⊎ IsAmong n (ats front)
    passed n is_at (inl there) = inl (inr there)
    passed n is_at (inr (inl here)) = inl (inl (here ∙ is_at))
    passed n is_at (inr (inr there)) = inr there
in_front past xs ys known turns (f ∷ front) _ _ _ reach (more before g h given held i rest) is =
    let head : joined (alone g.access h.at g.op) h ≡ f = cc in
    let tail : held ≡ front ++ xs = cc in
    subst (λ x. AreOf past before (g ∷ given) (x ∷ (front ++ ys))) head
    (more before g h given (front ++ ys) i (in_front past xs ys known turns (h ∷ front) (h.at ∷ before) given (h ∷ held) (λ n there. passed n (ap (λ (x : Holder). x.at) (sym head)) (reach n there)) rest (ap (λ t. h ∷ t) tail)))
  where
    passed : (n : Name) → f.at ≡ h.at → IsAmong n before ⊎ ((n ≡ f.at) ⊎ IsAmong n (ats front)) → ((n ≡ h.at) ⊎ IsAmong n before) ⊎ ((n ≡ h.at) ⊎ IsAmong n (ats front))
    passed n is_at (inl there) = inl (inr there)
    passed n is_at (inr (inl here)) = inl (inl (here ∙ is_at))
    passed n is_at (inr (inr there)) = inr (inr there)
in_front past xs ys known turns (f ∷ front) _ _ _ reach (read before g at given held gets among i rest) is = read before g at given (f ∷ (front ++ ys)) gets among i (in_front past xs ys known turns (f ∷ front) before given held reach rest is)

becomes : (past : Past) (ks xs ys : List Holder) → ((before : List Name) (given : List Grant) → ((n : Name) → IsAmong n (ats ks) → IsAmong n before) → AreOf past before given xs → AreOf past before given ys) → Becomes past (ks ++ xs) (ks ++ ys)
becomes past ks xs ys turns = λ given front are.
    subst (AreOf past [] given) (append_assoc front ks ys)
    (in_front past xs ys (ats ks) turns (front ++ ks) [] given (front ++ (ks ++ xs)) (λ n there. inr (among_after front ks n there)) are (sym (append_assoc front ks xs)))

pub becomes_then : (past : Past) (xs ys zs : List Holder) → Becomes past xs ys → Becomes past ys zs → Becomes past xs zs
becomes_then past xs ys zs a b = λ given front are. b given front (a given front are)

-- A LOCK GOES

dropped : (past : Past) (h : Holder) (rest : List Holder) → is_some (dead past h.at) ≡ true → (before : List Name) (given : List Grant) (held : List Holder) → AreOf past before given held → held ≡ h ∷ rest → AreOf past before given rest
dropped past h rest dies _ _ _ (none before) is = absurd cc
dropped past h rest dies _ _ _ (gone before g given held dead_ are) is = gone before g given rest dead_ (dropped past h rest dies before given held are is)
dropped past h rest dies _ _ _ (kept before g at given held i are) is =
    let head : alone g.access at g.op ≡ h = cc in
    let tail : held ≡ rest = cc in
    let here : is_some (dead past at) ≡ true = ap (λ (x : Holder). is_some (dead past x.at)) head ∙ dies in
    gone before g given rest (dead_down past at g.access i.above here) (recast past (at ∷ before) before (without_dead past at before here) given rest (subst (AreOf past (at ∷ before) given) tail are))
dropped past h rest dies _ _ _ (more before g k given held i are) is =
    let head : joined (alone g.access k.at g.op) k ≡ h = cc in
    let tail : held ≡ rest = cc in
    let here : is_some (dead past k.at) ≡ true = ap (λ (x : Holder). is_some (dead past x.at)) head ∙ dies in
    gone before g given rest (dead_down past k.at g.access i.above here)
    (recast past (k.at ∷ before) before (without_dead past k.at before here) given rest (dropped past k rest here (k.at ∷ before) given (k ∷ held) are (ap (λ t. k ∷ t) tail)))
dropped past h rest dies _ _ _ (read before g at given held gets among i are) is = read before g at given rest gets among i (dropped past h rest dies before given held are is)

pub drop_one : (past : Past) (ks rest : List Holder) (h : Holder) → is_some (dead past h.at) ≡ true → Becomes past (ks ++ h ∷ rest) (ks ++ rest)
drop_one past ks rest h dies = becomes past ks (h ∷ rest) rest (λ before given reach are. dropped past h rest dies before given (h ∷ rest) are refl)

-- A LOCK GOES UP

moved_first : (past : Past) (h to : Holder) (rest : List Holder) → HasMoved past h to → (before : List Name) (given : List Grant) (held : List Holder) → AreOf past before given held → held ≡ h ∷ rest → AreOf past before given (to ∷ rest)
moved_first past h to rest m _ _ _ (none before) is = absurd cc
moved_first past h to rest m _ _ _ (gone before g given held dies are) is = gone before g given (to ∷ rest) dies (moved_first past h to rest m before given held are is)
moved_first past h to rest m _ _ _ (kept before g at given held i are) is =
    let head : alone g.access at g.op ≡ h = cc in
    let tail : held ≡ rest = cc in
    let up : IsInherited past at to.at = subst (λ (x : Holder). IsInherited past x.at to.at) (sym head) m.up in
    let there : alone g.access to.at g.op ≡ to = ap (λ (x : Holder). let y : Holder = record x { at = to.at } in y) head ∙ sym m.same in
    subst (λ x. AreOf past before (g ∷ given) (x ∷ rest)) there
    (kept before g to.at given rest (passed_on past g.access at to.at i up) (recast past (at ∷ before) (to.at ∷ before) (higher past at to.at before up) given rest (subst (AreOf past (at ∷ before) given) tail are)))
moved_first past h to rest m _ _ _ (more before g k given held i are) is =
    let head : joined (alone g.access k.at g.op) k ≡ h = cc in
    let tail : held ≡ rest = cc in
    let k_to : Holder = record k { at = to.at } in
    let up : IsInherited past k.at to.at = subst (λ (x : Holder). IsInherited past x.at to.at) (sym head) m.up in
    let there : joined (alone g.access to.at g.op) k_to ≡ to = ap (λ (x : Holder). let y : Holder = record x { at = to.at } in y) head ∙ sym m.same in
    subst (λ x. AreOf past before (g ∷ given) (x ∷ rest)) there
    (more before g k_to given rest (passed_on past g.access k.at to.at i up)
    (recast past (k.at ∷ before) (to.at ∷ before) (higher past k.at to.at before up) given (k_to ∷ rest)
    (moved_first past k k_to rest (record { same = refl; up = up }) (k.at ∷ before) given (k ∷ held) are (ap (λ t. k ∷ t) tail))))
moved_first past h to rest m _ _ _ (read before g at given held gets among i are) is = read before g at given (to ∷ rest) gets among i (moved_first past h to rest m before given held are is)

pub move_one : (past : Past) (ks rest : List Holder) (h to : Holder) → HasMoved past h to → Becomes past (ks ++ h ∷ rest) (ks ++ to ∷ rest)
move_one past ks rest h to m = becomes past ks (h ∷ rest) (to ∷ rest) (λ before given reach are. moved_first past h to rest m before given (h ∷ rest) are refl)

-- A LOCK JOINS ITS NEIGHBOUR

joined_joined : (a b c : Holder) → joined a (joined b c) ≡ joined (joined a b) c
joined_joined a b c = made _ _ _ _ _ _ (sym (or_first a.writer b.writer c.writer)) (or_first c.put b.put a.put) (or_first c.change b.change a.change)
  where
    made : (w w' : Option Name) (p p' : Option Put) (q q' : Option Change) → w ≡ w' → p ≡ p' → q ≡ q' → (let x : Holder = record { first = a.first; at = a.at; writer = w; put = p; change = q } in x) ≡ record { first = a.first; at = a.at; writer = w'; put = p'; change = q' }
    made w w' p p' q q' e f g = cc

joined_first : (past : Past) (a b : Holder) (rest : List Holder) → a.at ≡ b.at → (before : List Name) (given : List Grant) (held : List Holder) → AreOf past before given held → held ≡ a ∷ b ∷ rest → AreOf past before given (joined a b ∷ rest)
joined_first past a b rest same _ _ _ (none before) is = absurd cc
joined_first past a b rest same _ _ _ (gone before g given held dies are) is = gone before g given (joined a b ∷ rest) dies (joined_first past a b rest same before given held are is)
joined_first past a b rest same _ _ _ (kept before g at given held i are) is =
    let head : alone g.access at g.op ≡ a = cc in
    let tail : held ≡ b ∷ rest = cc in
    let at_b : at ≡ b.at = ap (λ (x : Holder). x.at) head ∙ same in
    subst (λ x. AreOf past before (g ∷ given) (joined x b ∷ rest)) (ap (λ n. alone g.access n g.op) (sym at_b) ∙ head)
    (more before g b given rest (subst (IsInherited past g.access) at_b i) (subst (λ n. AreOf past (n ∷ before) given (b ∷ rest)) at_b (subst (AreOf past (at ∷ before) given) tail are)))
joined_first past a b rest same _ _ _ (more before g k given held i are) is =
    let head : joined (alone g.access k.at g.op) k ≡ a = cc in
    let tail : held ≡ b ∷ rest = cc in
    let at_b : k.at ≡ b.at = ap (λ (x : Holder). x.at) head ∙ same in
    subst (λ x. AreOf past before (g ∷ given) (x ∷ rest)) (joined_joined (alone g.access k.at g.op) k b ∙ ap (λ x. joined x b) head)
    (more before g (joined k b) given rest i (joined_first past k b rest at_b (k.at ∷ before) given (k ∷ held) are (ap (λ t. k ∷ t) tail)))
joined_first past a b rest same _ _ _ (read before g at given held gets among i are) is = read before g at given (joined a b ∷ rest) gets among i (joined_first past a b rest same before given held are is)

pub join_one : (past : Past) (ks rest : List Holder) (a b : Holder) → a.at ≡ b.at → Becomes past (ks ++ a ∷ b ∷ rest) (ks ++ joined a b ∷ rest)
join_one past ks rest a b same = becomes past ks (a ∷ b ∷ rest) (joined a b ∷ rest) (λ before given reach are. joined_first past a b rest same before given (a ∷ b ∷ rest) are refl)

-- A READ JOINS A LOCK FROM BEFORE

alone_reads : (access at : Name) (op : Op) → is_read (alone access at op) ≡ true → is_get op ≡ true
alone_reads access at Get reads = refl
alone_reads access at (PutData version value) reads = absurd (true≢false (sym reads))
alone_reads access at (PutConfig generation config) reads = absurd (true≢false (sym reads))

pub and_true_left : (a b : Bool) → (a && b) ≡ true → a ≡ true
and_true_left true b h = refl
and_true_left false b h = h

pub and_true_right : (a b : Bool) → (a && b) ≡ true → b ≡ true
and_true_right true b h = h
and_true_right false b h = absurd (true≢false (sym h))

pub and_true : {a b : Bool} → a ≡ true → b ≡ true → (a && b) ≡ true
and_true {a} {b} first second = ap (λ x. x && b) first ∙ second

none_first : {Y : Type 0} (a b : Option Y) → is_none (option_or a b) ≡ true → is_none a ≡ true
none_first None b h = refl
none_first (Some y) b h = h

none_second : {Y : Type 0} (a b : Option Y) → is_none (option_or a b) ≡ true → is_none b ≡ true
none_second None b h = h
none_second (Some y) b h = absurd (true≢false (sym h))

-- whose lock is a read, is so with each of two that are one
pub reads_first : (a b : Holder) → is_read (joined a b) ≡ true → is_read a ≡ true
reads_first a b reads =
    let two = and_true_right _ _ reads in
    and_true (none_first a.writer b.writer (and_true_left _ _ reads)) (and_true (none_second b.put a.put (and_true_left _ _ two)) (none_second b.change a.change (and_true_right _ _ two)))

reads_second : (a b : Holder) → is_read (joined a b) ≡ true → is_read b ≡ true
reads_second a b reads =
    let two = and_true_right _ _ reads in
    and_true (none_second a.writer b.writer (and_true_left _ _ reads)) (and_true (none_first b.put a.put (and_true_left _ _ two)) (none_first b.change a.change (and_true_right _ _ two)))

forgotten : (past : Past) (h : Holder) (rest : List Holder) → is_read h ≡ true → (before : List Name) (given : List Grant) (held : List Holder) → IsAmong h.at before → AreOf past before given held → held ≡ h ∷ rest → AreOf past before given rest
forgotten past h rest reads _ _ _ there (none before) is = absurd cc
forgotten past h rest reads _ _ _ there (gone before g given held dies are) is = gone before g given rest dies (forgotten past h rest reads before given held there are is)
forgotten past h rest reads _ _ _ there (kept before g at given held i are) is =
    let head : alone g.access at g.op ≡ h = cc in
    let tail : held ≡ rest = cc in
    let among : IsAmong at before = subst (λ n. IsAmong n before) (ap (λ (x : Holder). x.at) (sym head)) there in
    read before g at given rest (alone_reads g.access at g.op (ap is_read head ∙ reads)) among i
    (recast past (at ∷ before) before (without_again past at before among) given rest (subst (AreOf past (at ∷ before) given) tail are))
forgotten past h rest reads _ _ _ there (more before g k given held i are) is =
    let head : joined (alone g.access k.at g.op) k ≡ h = cc in
    let tail : held ≡ rest = cc in
    let among : IsAmong k.at before = subst (λ n. IsAmong n before) (ap (λ (x : Holder). x.at) (sym head)) there in
    let both : is_read (joined (alone g.access k.at g.op) k) ≡ true = ap is_read head ∙ reads in
    read before g k.at given rest (alone_reads g.access k.at g.op (reads_first (alone g.access k.at g.op) k both)) among i
    (recast past (k.at ∷ before) before (without_again past k.at before among) given rest
    (forgotten past k rest (reads_second (alone g.access k.at g.op) k both) (k.at ∷ before) given (k ∷ held) (inl refl) are (ap (λ t. k ∷ t) tail)))
forgotten past h rest reads _ _ _ there (read before g at given held gets among i are) is = read before g at given rest gets among i (forgotten past h rest reads before given held there are is)

held_among : (held : List Holder) (at : Name) → is_held held at ≡ true → IsAmong at (ats held)
held_among [] at is = absurd (true≢false (sym is))
held_among (h ∷ held) at is = by_test (same h.at at) refl is (held_among held at)
  where
    by_test : (b : Bool) → same h.at at ≡ b → (b || is_held held at) ≡ true → (is_held held at ≡ true → IsAmong at (ats held)) → (at ≡ h.at) ⊎ IsAmong at (ats held)
    by_test true here found rest = inl (sym (same_is h.at at here))
    by_test false other found rest = inr (rest found)

forget_one : (past : Past) (ks rest : List Holder) (h : Holder) → is_read h ≡ true → is_held ks h.at ≡ true → Becomes past (ks ++ h ∷ rest) (ks ++ rest)
forget_one past ks rest h reads held =
    becomes past ks (h ∷ rest) rest (λ before given reach are. forgotten past h rest reads before given (h ∷ rest) (reach h.at (held_among ks h.at held)) are refl)

-- AN ENTRY MORE, AND A GRANT MORE

pub are_on : (e : Entry) (past : Past) (before : List Name) (given : List Grant) (held : List Holder) → AreOf past before given held → AreOf (e ∷ past) before given held
are_on e past _ _ _ (none before) = none before
are_on e past _ _ _ (gone before g given held dies rest) = gone before g given held (dead_stays e past g.access dies) (are_on e past before given held rest)
are_on e past _ _ _ (kept before g at given held i rest) = kept before g at given held (inherited_on e past g.access at i) (are_on e past (at ∷ before) given held rest)
are_on e past _ _ _ (more before g h given held i rest) = more before g h given held (inherited_on e past g.access h.at i) (are_on e past (h.at ∷ before) given (h ∷ held) rest)
are_on e past _ _ _ (read before g at given held gets among i rest) = read before g at given held gets among (inherited_on e past g.access at i) (are_on e past before given held rest)

pub are_last : (past : Past) (g : Grant) (before : List Name) (given : List Grant) (held : List Holder) → AreOf past before given held → AreOf past before (given ++ g ∷ []) (held ++ alone g.access g.access g.op ∷ [])
are_last past g _ _ _ (none before) = kept before g g.access [] [] (not_passed past g.access) (none (g.access ∷ before))
are_last past g _ _ _ (gone before x given held dies rest) = gone before x (given ++ g ∷ []) (held ++ alone g.access g.access g.op ∷ []) dies (are_last past g before given held rest)
are_last past g _ _ _ (kept before x at given held i rest) = kept before x at (given ++ g ∷ []) (held ++ alone g.access g.access g.op ∷ []) i (are_last past g (at ∷ before) given held rest)
are_last past g _ _ _ (more before x h given held i rest) = more before x h (given ++ g ∷ []) (held ++ alone g.access g.access g.op ∷ []) i (are_last past g (h.at ∷ before) given (h ∷ held) rest)
are_last past g _ _ _ (read before x at given held gets among i rest) = read before x at (given ++ g ∷ []) (held ++ alone g.access g.access g.op ∷ []) gets among i (are_last past g before given held rest)

-- ONE LOCK AFTER ANOTHER

pub becomes_same : (past : Past) (xs : List Holder) → Becomes past xs xs
becomes_same past xs = λ given front are. are

pub becomes_after : (past : Past) (k : Holder) (xs ys : List Holder) → Becomes past xs ys → Becomes past (k ∷ xs) (k ∷ ys)
becomes_after past k xs ys turns = λ given front are.
    subst (AreOf past [] given) (append_assoc front (k ∷ []) ys) (turns given (front ++ k ∷ []) (subst (AreOf past [] given) (sym (append_assoc front (k ∷ []) xs)) are))

-- the next lock, alone or joined with the last one
neighbour_becomes : (past : Past) (ks rest : List Holder) (h : Holder) → Becomes past (ks ++ h ∷ rest) (with_neighbour ks h ++ rest)
neighbour_becomes past [] rest h = becomes_same past (h ∷ rest)
neighbour_becomes past (k ∷ []) rest h = by_test (same k.at h.at) refl
  where
    by_test : (b : Bool) → same k.at h.at ≡ b → Becomes past (k ∷ h ∷ rest) ((if b then joined k h ∷ [] else k ∷ h ∷ []) ++ rest)
    by_test true is = join_one past [] rest k h (same_is k.at h.at is)
    by_test false is = becomes_same past (k ∷ h ∷ rest)
neighbour_becomes past (k ∷ l ∷ ks) rest h = becomes_after past k ((l ∷ ks) ++ h ∷ rest) (with_neighbour (l ∷ ks) h ++ rest) (neighbour_becomes past (l ∷ ks) rest h)

-- what holds still, with one more
neighbour_still : (past : Past) (ks : List Holder) (h : Holder) → All (HoldsStill past) ks → HoldsStill past h → All (HoldsStill past) (with_neighbour ks h)
neighbour_still past [] h all still = All-cons (HoldsStill past) h [] still all
neighbour_still past (k ∷ []) h all still = by_test (same k.at h.at)
  where
    by_test : (b : Bool) → All (HoldsStill past) (if b then joined k h ∷ [] else k ∷ h ∷ [])
    by_test true =
        let here = All-head (HoldsStill past) k [] all in
        All-cons (HoldsStill past) (joined k h) [] (record { alive = here.alive; not_committed = here.not_committed }) (All-tail (HoldsStill past) k [] all)
    by_test false = All-cons (HoldsStill past) k (h ∷ []) (All-head (HoldsStill past) k [] all) (All-cons (HoldsStill past) h [] still (All-tail (HoldsStill past) k [] all))
neighbour_still past (k ∷ l ∷ ks) h all still = All-cons (HoldsStill past) k (with_neighbour (l ∷ ks) h) (All-head (HoldsStill past) k (l ∷ ks) all) (neighbour_still past (l ∷ ks) h (All-tail (HoldsStill past) k (l ∷ ks) all) still)

pub neighbour_last : (xs : List Holder) (k h : Holder) → with_neighbour (xs ++ k ∷ []) h ≡ (if same k.at h.at then xs ++ joined k h ∷ [] else (xs ++ k ∷ []) ++ h ∷ [])
neighbour_last [] k h = refl
neighbour_last (x ∷ []) k h = by_test (same k.at h.at)
  where
    by_test : (b : Bool) → x ∷ (if b then joined k h ∷ [] else k ∷ h ∷ []) ≡ (if b then x ∷ joined k h ∷ [] else x ∷ k ∷ h ∷ [])
    by_test true = refl
    by_test false = refl
neighbour_last (x ∷ y ∷ xs) k h = ap (λ t. x ∷ t) (neighbour_last (y ∷ xs) k h) ∙ by_test (same k.at h.at)
  where
    by_test : (b : Bool) → x ∷ (if b then (y ∷ xs) ++ joined k h ∷ [] else ((y ∷ xs) ++ k ∷ []) ++ h ∷ []) ≡ (if b then (x ∷ y ∷ xs) ++ joined k h ∷ [] else ((x ∷ y ∷ xs) ++ k ∷ []) ++ h ∷ [])
    by_test true = refl
    by_test false = refl

-- the next lock, alone or joined with one before
pub next_becomes : (past : Past) (ks rest : List Holder) (h : Holder) → Becomes past (ks ++ h ∷ rest) (with_next ks h ++ rest)
next_becomes past ks rest h = by_test (is_read h && is_held ks h.at) refl
  where
    by_test : (b : Bool) → (is_read h && is_held ks h.at) ≡ b → Becomes past (ks ++ h ∷ rest) ((if b then ks else with_neighbour ks h) ++ rest)
    by_test true is = forget_one past ks rest h (and_true_left _ _ is) (and_true_right _ _ is)
    by_test false is = neighbour_becomes past ks rest h

pub next_still : (past : Past) (ks : List Holder) (h : Holder) → All (HoldsStill past) ks → HoldsStill past h → All (HoldsStill past) (with_next ks h)
next_still past ks h all still = by_test (is_read h && is_held ks h.at)
  where
    by_test : (b : Bool) → All (HoldsStill past) (if b then ks else with_neighbour ks h)
    by_test true = all
    by_test false = neighbour_still past ks h all still

-- ONE TURN OF SETTLING

pub turn_dropped : (past : Past) (all ks rest : List Holder) (h : Holder) → Becomes past all (ks ++ h ∷ rest) → is_some (dead past h.at) ≡ true → Becomes past all (ks ++ rest)
turn_dropped past all ks rest h so_far dies = becomes_then past all (ks ++ h ∷ rest) (ks ++ rest) so_far (drop_one past ks rest h dies)

pub turn_moved : (past : Past) (all ks rest : List Holder) (h : Holder) (at : Name) → Becomes past all (ks ++ h ∷ rest) → IsInherited past h.at at → Becomes past all (with_next ks (held_at h at) ++ rest)
turn_moved past all ks rest h at so_far up =
    becomes_then past all (ks ++ h ∷ rest) (with_next ks (held_at h at) ++ rest) so_far
    (becomes_then past (ks ++ h ∷ rest) (ks ++ held_at h at ∷ rest) (with_next ks (held_at h at) ++ rest)
    (move_one past ks rest h (held_at h at) (record { same = refl; up = up }))
    (next_becomes past ks rest (held_at h at)))
