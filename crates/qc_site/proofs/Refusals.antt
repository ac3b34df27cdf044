-- Why a site did not do what it was asked.
use Rattle.std.proofs.Common.{◌≡◌, ◌⊎◌, inl, inr, ℕ, refl, sym, ap, ◌∙◌, subst, true, false}
use Rattle.qc_config.specs.declared.tuple.Tuple.{Tuple}
use Rattle.qc_event.specs.Grants.{grant_with}
use Rattle.qc_disk.specs.declared.disk.Disk.{Ghosts}
use Rattle.qc_event.specs.declared.event.Ask.{Ask}
use Rattle.qc_event.specs.declared.event.Grant.{Grant}
use Rattle.qc_event.specs.declared.short.Short.{Short as Wanting}
use Rattle.qc_event.specs.declared.short.Short.TheVariants as short
use Rattle.qc_event.specs.History.{Past}
use Rattle.qc_event.specs.Wants.{IsWant}
use Rattle.qc_journal.specs.Journal.{limit_of, place_of, IsDown, IsTooLong, IsUp}
use Rattle.qc_journal.specs.declared.journal.Journal.{Journal}
use Rattle.qc_journal.specs.declared.fault.Fault.{Fault}
use Rattle.qc_journal.specs.declared.fault.Fault.TheVariants as fault
use Rattle.qc_site.specs.Back.{grant_body}
use Rattle.qc_site.specs.Log.{WriteLeaves}
use Rattle.qc_site.specs.Serving.{of_fault, of_site}
use Rattle.qc_site.specs.declared.log.GrantLog.{GrantLog}
use Rattle.qc_site.specs.declared.serve.ServeNo.{ServeNo}
use Rattle.qc_site.specs.declared.serve.ServeNo.TheVariants as no_serve
use Rattle.std.specs.Prelude.{None, Result, Ok, Err, IfErr, IsErrAnd, IsErrOf}
use Rattle.qc_site.specs.Calls.{ReviveSays, ServeSays, SiteState}
use Rattle.qc_site.specs.Replica.{Standing}
use Rattle.qc_site.specs.Sites.{IsSiteWant}
use Rattle.qc_site.specs.declared.fault.SiteNo.{SiteNo}
use Rattle.qc_site.specs.declared.fault.SiteNo.TheVariants.{Disk, Image, Strange, Short}

-- want at the desk is what a revival may say
pub want_says : {D T : Type 0} {g : Ghosts D} (new : SiteState g) (r : Result T SiteNo) → IfErr r (IsSiteWant new.replica.pass.seen) → IfErr r (ReviveSays new)
want_says new (Ok x) is = tt
want_says new (Err Disk) is = absurd is
want_says new (Err (Image bad)) is = is
want_says new (Err Strange) is = absurd is
want_says new (Err (Short want)) is = is

-- it is no fault of the disk
pub no_disk_no : {T : Type 0} (past : Past) (r : Result T SiteNo) → IfErr r (IsSiteWant past) → IsErrOf r Disk → ⊥
no_disk_no past (Ok x) is of = absurd cc
no_disk_no past (Err refusal) is of = let one : refusal ≡ Disk = cc in subst (IsSiteWant past) one is

-- want of memory or of room is what a site may want
pub site_want : {T : Type 0} (past : Past) (want : Wanting) (r : Result T SiteNo) → IsErrAnd r (λ e. e ≡ Short want) → IsWant past want → IfErr r (IsSiteWant past)
site_want past want (Ok x) is wanted = tt
site_want past want (Err e) is wanted = subst (IsSiteWant past) (sym is) wanted

-- TO A REQUEST

-- it is down where the disk failed
pub down_is_disk : {D : Type 0} {g : Ghosts D} {T : Type 0} (old new : GrantLog D g) (f : Fault) (e : ServeNo) → WriteLeaves old new f → e ≡ of_fault f → IsErrOf {T = T} (Err e) no_serve.Down → IsErrOf {T = T} (Err f) fault.Disk
down_is_disk old new fault.Disk e left is failed = refl
down_is_disk old new (fault.Broken place) e left is failed = absurd left
down_is_disk old new (fault.Full place) e left is failed = absurd (let one : e ≡ no_serve.Down = cc in let other : no_serve.Full ≡ no_serve.Down = sym is ∙ one in cc)
down_is_disk old new fault.Memory e left is failed = absurd (let one : e ≡ no_serve.Down = cc in let other : no_serve.Short short.Memory ≡ no_serve.Down = sym is ∙ one in cc)

-- what a fault of the journal says to a request
pub write_says : {D : Type 0} {g : Ghosts D} (old : GrantLog D g) (new : SiteState g) (was : Standing) (f : Fault) (e : ServeNo) → WriteLeaves old new.log f → e ≡ of_fault f → IsUp old.journal → was.up ≡ true
    → ((IsUp new.log.journal) × (new.replica.hand ≡ None) × (new.replica.up ≡ was.up)) ⊎ ((IsDown new.log.journal) × (new.replica.hand ≡ was.hand) × (new.replica.up ≡ false))
    → ServeSays new e
write_says {D} {g} old new was f e left is up stood fallen = subst (ServeSays new) (sym is) (by f left)
  where
    by : (f : Fault) → WriteLeaves old new.log f → ServeSays new (of_fault f)
    by fault.Disk down = elim fallen [ inl u ↦ absurd (down u.0) | inr d ↦ d.2 ]
    by (fault.Broken place) never = absurd never
    by (fault.Full place) left = elim fallen [
      | inl u ↦ record { up = u.2 ∙ stood; none = u.1 }
      | inr d ↦ absurd (d.0 (subst (λ (j : Journal D g). IsUp j) (sym left) up))
    ]
    by fault.Memory left = tt

-- a request is told that a copy is full where the record would pass the limit
pub write_full : {D : Type 0} {g : Ghosts D} {T : Type 0} (old new : GrantLog D g) (f : Fault) (e : ServeNo) (ask : Ask) (tuple : Tuple) (grant : Grant) → WriteLeaves old new f → e ≡ of_fault f
    → ((place : ℕ) → f ≡ fault.Full place → IsTooLong (place_of old.journal) (limit_of old.journal) (grant_body old.copies grant)) → new.copies ≡ old.copies → grant ≡ grant_with ask tuple
    → IsErrOf {T = T} (Err e) no_serve.Full → IsTooLong (place_of new.journal) (limit_of new.journal) (grant_body new.copies (grant_with ask tuple))
write_full {D} {g} old new f e ask tuple grant left is long copies same failed = let one : e ≡ no_serve.Full = cc in by f left long (sym is ∙ one)
  where
    by : (f : Fault) → WriteLeaves old new f → ((place : ℕ) → f ≡ fault.Full place → IsTooLong (place_of old.journal) (limit_of old.journal) (grant_body old.copies grant)) → of_fault f ≡ no_serve.Full
        → IsTooLong (place_of new.journal) (limit_of new.journal) (grant_body new.copies (grant_with ask tuple))
    by fault.Disk left long at = absurd cc
    by (fault.Broken place) left long at = absurd left
    by (fault.Full place) left long at =
        subst (λ (j : Journal D g). IsTooLong (place_of j) (limit_of j) (grant_body new.copies (grant_with ask tuple))) (sym left)
        (subst (λ (x : Grant). IsTooLong (place_of old.journal) (limit_of old.journal) (grant_body new.copies x)) same
        (subst (λ n. IsTooLong (place_of old.journal) (limit_of old.journal) (grant_body n grant)) (sym copies) (long place refl)))
    by fault.Memory left long at = absurd cc

-- and its journal is as it was then
pub write_untouched : {D : Type 0} {g : Ghosts D} {T : Type 0} (old new : GrantLog D g) (f : Fault) (e : ServeNo) → WriteLeaves old new f → e ≡ of_fault f → IsErrOf {T = T} (Err e) no_serve.Full → new.journal ≡ old.journal
write_untouched old new f e left is failed = let one : e ≡ no_serve.Full = cc in by f left (sym is ∙ one)
  where
    by : (f : Fault) → WriteLeaves old new f → of_fault f ≡ no_serve.Full → new.journal ≡ old.journal
    by fault.Disk left at = absurd cc
    by (fault.Broken place) left at = absurd left
    by (fault.Full place) left at = left
    by fault.Memory left at = absurd cc

-- what want of memory or of room says to a request
pub short_says : {D T : Type 0} {g : Ghosts D} (new : SiteState g) (want : Wanting) (r : Result T ServeNo) → IsErrAnd r (λ e. e ≡ no_serve.Short want) → IsWant new.replica.pass.seen want → IfErr r (ServeSays new)
short_says new want (Ok x) is wanted = tt
short_says new want (Err e) is wanted = subst (ServeSays new) (sym is) wanted

-- what a refused revival says to a request
pub site_says : {D : Type 0} {g : Ghosts D} (new : SiteState g) (refused : SiteNo) (e : ServeNo) → e ≡ of_site refused → ReviveSays new refused → ServeSays new e
site_says new refused e is says = subst (ServeSays new) (sym is) (by refused says)
  where
    by : (r : SiteNo) → ReviveSays new r → ServeSays new (of_site r)
    by Disk s = s
    by (Image bad) s = absurd s
    by Strange s = s
    by (Short want) s = s

-- it is no other refusal
pub short_not : {T : Type 0} (want : Wanting) (other : ServeNo) (r : Result T ServeNo) → (no_serve.Short want ≡ other → ⊥) → IsErrAnd r (λ e. e ≡ no_serve.Short want) → IsErrOf r other → ⊥
short_not want other (Ok x) apart is failed = absurd cc
short_not want other (Err e) apart is failed = let one : e ≡ other = cc in apart (sym is ∙ one)

-- what is handed on is a refusal where that is what is handed
pub same_refusal : {T S E : Type 0} (r : Result T E) (refusal other : E) → IsErrAnd r (λ e. e ≡ refusal) → IsErrOf r other → IsErrOf {T = S} (Err refusal) other
same_refusal (Ok x) refusal other is failed = absurd cc
same_refusal (Err e) refusal other is failed = let one : e ≡ other = cc in ap (λ x. Err x) (sym is ∙ one)

pub handed_refusal : {T S E : Type 0} (r : Result T E) (refusal other : E) → IsErrAnd r (λ e. e ≡ refusal) → IsErrOf {T = S} (Err refusal) other → IsErrOf r other
handed_refusal (Ok x) refusal other is failed = absurd is
handed_refusal (Err e) refusal other is failed = let one : refusal ≡ other = cc in ap (λ x. Err x) (is ∙ one)

-- a site is down where the disk failed
pub site_down : {T S : Type 0} (refusal : SiteNo) (e : ServeNo) → e ≡ of_site refusal → IsErrOf {T = T} (Err e) no_serve.Down → IsErrOf {T = S} (Err refusal) Disk
site_down refusal e is failed =
    let one : e ≡ no_serve.Down = cc in
    ap (λ x. Err x) (by_case refusal (sym is ∙ one))
  where
    by_case : (r : SiteNo) → of_site r ≡ no_serve.Down → r ≡ Disk
    by_case Disk at = refl
    by_case (Image bad) at = cc
    by_case Strange at = cc
    by_case (Short want) at = cc

-- and where the disk failed it is down
pub disk_is_down : {T S : Type 0} (refusal : SiteNo) (e : ServeNo) → e ≡ of_site refusal → IsErrOf {T = S} (Err refusal) Disk → IsErrOf {T = T} (Err e) no_serve.Down
disk_is_down refusal e is failed = let one : refusal ≡ Disk = cc in ap (λ x. Err x) (is ∙ ap of_site one)

-- a site is strange where its revival says so
pub strange_site : {T : Type 0} (refusal : SiteNo) (e : ServeNo) → e ≡ of_site refusal → IsErrOf {T = T} (Err e) no_serve.Strange → refusal ≡ Strange
strange_site refusal e is failed = let one : e ≡ no_serve.Strange = cc in by refusal (sym is ∙ one)
  where
    by : (r : SiteNo) → of_site r ≡ no_serve.Strange → r ≡ Strange
    by Disk at = cc
    by (Image bad) at = cc
    by Strange at = refl
    by (Short want) at = cc

pub strange_is : {T S : Type 0} (refusal : SiteNo) (e : ServeNo) → e ≡ of_site refusal → IsErrOf {T = S} (Err refusal) Strange → IsErrOf {T = T} (Err e) no_serve.Strange
strange_is refusal e is failed = let one : refusal ≡ Strange = cc in ap (λ x. Err x) (is ∙ ap of_site one)

-- a request is not told so of a site that is not
pub not_strange : {D T : Type 0} {g : Ghosts D} (new : SiteState g) (r : Result T ServeNo) → IfErr r (ServeSays new) → IsErrOf r no_serve.Strange → (new.strange ≡ true → ⊥) → ⊥
not_strange new (Ok x) says failed never = absurd cc
not_strange new (Err e) says failed never = let one : e ≡ no_serve.Strange = cc in never (subst (ServeSays new) one says)

-- a revival is refused for no want of room on the disk
pub site_not_full : {T : Type 0} (refusal : SiteNo) (e : ServeNo) → e ≡ of_site refusal → IsErrOf {T = T} (Err e) no_serve.Full → ⊥
site_not_full refusal e is failed = let one : e ≡ no_serve.Full = cc in by refusal (sym is ∙ one)
  where
    by : (r : SiteNo) → of_site r ≡ no_serve.Full → ⊥
    by Disk at = cc
    by (Image bad) at = cc
    by Strange at = cc
    by (Short want) at = cc

-- a copy is down where its journal failed
pub fault_is_down : {T S : Type 0} (f : Fault) (e : ServeNo) → e ≡ of_fault f → IsErrOf {T = S} (Err f) fault.Disk → IsErrOf {T = T} (Err e) no_serve.Down
fault_is_down f e is failed = let one : f ≡ fault.Disk = cc in ap (λ x. Err x) (is ∙ ap of_fault one)
