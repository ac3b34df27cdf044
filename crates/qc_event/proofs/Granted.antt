-- What the grants of a copy are, one entry after another.
use Rattle.std.proofs.Common.{◌≡◌, ℕ, ◌+◌, ◌<◌, Bool, true, List, [], ◌∷◌, ◌++◌, length, take, drop, get_or, reverse, refl, sym, ap, ◌∙◌, append_assoc, append-nil}
use Rattle.std.specs.Prelude.{Option, None, Some, find, cond, option_to_list, if◌then◌else◌, ◌==◌}
use Rattle.std.specs.Option.{option_or}
use Rattle.std.proofs.lemmas.List.Folds.{find-append}
use Rattle.std.proofs.lemmas.Bool.{eq-eqb, eqb-true, false_from_ne_true}
use Rattle.qc_event.specs.declared.event.Entry.{Entry}
use Rattle.qc_event.specs.declared.event.Event.{Event}
use Rattle.qc_event.specs.declared.event.Event.TheVariants as event
use Rattle.qc_event.specs.declared.event.Grant.{Grant}
use Rattle.qc_event.specs.History.{Past, every, grants, grant_at}
use Rattle.qc_event.proofs.Histories.{parted, reverse-take_more}

pub every-append : {Y : Type 0} (f : Entry → Option Y) (newer older : Past) → every f (newer ++ older) ≡ every f older ++ every f newer
every-append f [] older = sym (append-nil (every f older))
every-append f (e ∷ newer) older = ap (λ ys. ys ++ option_to_list (f e)) (every-append f newer older) ∙ append_assoc (every f older) (every f newer) (option_to_list (f e))

-- an entry further, its grant stands last
grants_more : (h : List Entry) (copy i : ℕ) (e : Entry) → i < length h → e ≡ get_or h i e → grants (reverse (take (i + 1) h)) copy ≡ grants (reverse (take i h)) copy ++ option_to_list (grant_at copy e.event)
grants_more h copy i e lt item =
    ap (λ past. grants past copy) (reverse-take_more h i e lt)
    ∙ ap (λ (x : Entry). grants (reverse (take i h)) copy ++ option_to_list (grant_at copy x.event)) (sym item)

pub none_further : (p : Grant → Bool) (h : List Entry) (copy i : ℕ) (e : Entry) → i < length h → e ≡ get_or h i e → find p (grants (reverse (take i h)) copy) ≡ None → find p (option_to_list (grant_at copy e.event)) ≡ None → find p (grants (reverse (take (i + 1) h)) copy) ≡ None
none_further p h copy i e lt item before here =
    ap (find p) (grants_more h copy i e lt item)
    ∙ find-append p (grants (reverse (take i h)) copy) (option_to_list (grant_at copy e.event))
    ∙ ap (λ o. option_or o (find p (option_to_list (grant_at copy e.event)))) before
    ∙ here

-- where no grant before passes a test, and this one does, it is the first of all
pub first_grant : (p : Grant → Bool) (h : List Entry) (copy i : ℕ) (e : Entry) (g : Grant) → i < length h → e ≡ get_or h i e → find p (grants (reverse (take i h)) copy) ≡ None → grant_at copy e.event ≡ Some g → p g ≡ true → find p (grants (reverse h) copy) ≡ Some g
first_grant p h copy i e g lt item before is passes =
    ap (λ past. find p (grants past copy)) (parted h i e lt)
    ∙ ap (find p) (every-append (λ x. grant_at copy x.event) (reverse (drop (i + 1) h)) (get_or h i e ∷ reverse (take i h)))
    ∙ find-append p (grants (get_or h i e ∷ reverse (take i h)) copy) (grants (reverse (drop (i + 1) h)) copy)
    ∙ ap (λ o. option_or o (find p (grants (reverse (drop (i + 1) h)) copy))) here
  where
    here : find p (grants (get_or h i e ∷ reverse (take i h)) copy) ≡ Some g
    here =
        ap (λ (x : Entry). find p (grants (x ∷ reverse (take i h)) copy)) (sym item)
        ∙ find-append p (grants (reverse (take i h)) copy) (option_to_list (grant_at copy e.event))
        ∙ ap (λ o. option_or o (find p (option_to_list (grant_at copy e.event)))) before
        ∙ ap (λ o. find p (option_to_list o)) is
        ∙ ap (λ b. cond b (Some g) None) passes

-- what a grant at the copy adds, a grant elsewhere, and an entry that grants nothing
pub at_copy : (c copy : ℕ) (g : Grant) (ev : Event) → ev ≡ event.Granted c g → c ≡ copy → grant_at copy ev ≡ Some g
at_copy c copy g ev is here = ap (grant_at copy) is ∙ ap (λ b. if b then Some g else None) (eq-eqb c copy here)

pub elsewhere : (c copy : ℕ) (g : Grant) (ev : Event) → ev ≡ event.Granted c g → (c ≡ copy → ⊥) → grant_at copy ev ≡ None
elsewhere c copy g ev is other = ap (grant_at copy) is ∙ ap (λ b. if b then Some g else None) (false_from_ne_true (c == copy) (λ h. other (eqb-true c copy h)))

pub grants_nothing : (copy : ℕ) (ev : Event) → ((c : ℕ) (g : Grant) → ev ≡ event.Granted c g → ⊥) → grant_at copy ev ≡ None
grants_nothing copy (event.Granted c g) not = absurd (not c g refl)
grants_nothing copy _ not = refl
