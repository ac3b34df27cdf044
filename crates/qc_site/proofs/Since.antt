-- How what a crash might have left of a copy's disk since a moment goes on.
use Rattle.std.proofs.Common.{◌≡◌, inl, inr, ℕ, List, [], ◌∷◌, ◌++◌, length, map, refl, sym, ap, ◌∙◌, subst, append_assoc, append-nil}
use Rattle.std.specs.Prelude.{◌↔◌, None, Some}
use Rattle.std.proofs.lemmas.List.{map-append}
use Rattle.qc_disk.specs.declared.disk.Disk.{Ghosts}
use Rattle.qc_event.specs.declared.event.Grant.{Grant}
use Rattle.qc_event.specs.Base.{Setting}
use Rattle.qc_event.specs.Grants.{MayGrant}
use Rattle.qc_event.specs.History.{Past, grants}
use Rattle.qc_event.specs.Seats.{copy_seat}
use Rattle.qc_journal.specs.Image.{HasRecords}
use Rattle.qc_journal.specs.Journal.{IsUp, Keeps, disk_of}
use Rattle.qc_journal.specs.declared.journal.Journal.{Journal}
use Rattle.qc_ledger.specs.Runs.{Falls, HasOrMore, Leaves, LosesNone}
use Rattle.qc_ledger.specs.Since.{GrownSince, HasBehind}
use Rattle.qc_ledger.proofs.Since.{grown_falls, grown_first, grown_more, grown_on}
use Rattle.qc_ledger.proofs.Writing.{kept_has}
use Rattle.qc_desk.specs.Entries.{IsOlder}
use Rattle.qc_desk.proofs.Seers.{older_trans}
use Rattle.qc_site.specs.Back.{grant_body}
use Rattle.qc_site.specs.Log.{IsOver, log_journal}
use Rattle.qc_site.specs.Since.{AreGrantsBy, GrantsGrow}
use Rattle.qc_site.specs.declared.log.GrantLog.{GrantLog}

-- the history has grown
pub grants_later : (setting : Setting) (copy : ℕ) (past now : Past) (bodies : List (List ℕ)) → IsOlder past now → AreGrantsBy setting copy past bodies → AreGrantsBy setting copy now bodies
grants_later setting copy past now bodies older are = record {
  earlier = are.earlier;
  older = older_trans are.earlier past now are.older older;
  untold = are.untold;
  may = are.may;
  given = are.given;
  these = are.these;
  are = are.are;
}

module _ (setting : Setting) (copy : ℕ) (before : List (List ℕ)) (past : Past) (grant : Grant) (may : MayGrant setting past (copy_seat copy) copy grant) where
  abbrev write : List Grant → List (List ℕ)
  write gs = map (grant_body (length setting.base)) gs

  without : AreGrantsBy setting copy past (write (grants past copy))
  without = record { earlier = past; older = ([], refl); untold = Some grant; may = may; given = grants past copy; these = inl refl; are = refl }

  with_grant : AreGrantsBy setting copy past (write (grants past copy ++ grant ∷ []))
  with_grant = record { earlier = past; older = ([], refl); untold = Some grant; may = may; given = grants past copy ++ grant ∷ []; these = inr refl; are = refl }

  behind : (before ++ write (grants past copy)) ++ grant_body (length setting.base) grant ∷ [] ≡ before ++ write (grants past copy ++ grant ∷ [])
  behind = append_assoc before (write (grants past copy)) (grant_body (length setting.base) grant ∷ []) ∙ ap (λ l. before ++ l) (sym (map-append (grant_body (length setting.base)) (grants past copy) (grant ∷ [])))

  written_has : (c : List ℕ) → HasOrMore (before ++ write (grants past copy)) (grant_body (length setting.base) grant) c → HasBehind before (AreGrantsBy setting copy past) c
  written_has c (inl these) = (write (grants past copy), without, these)
  written_has c (inr more) = (write (grants past copy ++ grant ∷ []), with_grant, subst (λ (b : List (List ℕ)). HasRecords b c) behind more)

  -- a grant's record is written that may be made next
  pub grants_written : {D : Type 0} {g : Ghosts D} (since : ℕ) (old new : GrantLog D g) → old.copies ≡ length setting.base
      → ((found : List (List ℕ)) → Keeps (log_journal old) found → Leaves (log_journal old) (log_journal new) (HasOrMore found (grant_body old.copies grant)))
      → ((found : List (List ℕ)) → Keeps (log_journal old) found → LosesNone (log_journal old) (log_journal new))
      → IsOver before old (grants past copy) None → GrantsGrow setting copy before since old past → GrantsGrow setting copy before since new past
  grants_written {D} {g} since old new copies leaves grows over grown =
      grown_on since before g.view (disk_of (log_journal old)) (disk_of (log_journal new)) (AreGrantsBy setting copy past) (AreGrantsBy setting copy past) (HasOrMore found (grant_body (length setting.base) grant)) (λ more m. m) written_has
      (subst (λ n. Leaves (log_journal old) (log_journal new) (HasOrMore found (grant_body n grant))) copies (leaves found keeps)) (grows found keeps) grown
    where
      found : List (List ℕ)
      found = before ++ write (grants past copy)

      none : over.rest ≡ []
      none = elim over.is_hand [ inl is ↦ is | inr is ↦ is ]

      keeps : Keeps (log_journal old) found
      keeps = subst (λ gs. Keeps (log_journal old) (before ++ write gs)) (ap (λ r. grants past copy ++ r) none ∙ append-nil (grants past copy)) (subst (λ n. Keeps (log_journal old) (before ++ map (grant_body n) (grants past copy ++ over.rest))) copies over.keeps)

module _ {D : Type 0} {g : Ghosts D} (setting : Setting) (copy : ℕ) (before : List (List ℕ)) (since : ℕ) where
  -- more was seen
  pub grants_seen : (log : GrantLog D g) (past now : Past) → IsOlder past now → GrantsGrow setting copy before since log past → GrantsGrow setting copy before since log now
  grants_seen log past now older grown = grown_more since before (AreGrantsBy setting copy past) (AreGrantsBy setting copy now) (g.view (disk_of (log_journal log))) (λ bodies are. grants_later setting copy past now bodies older are) grown

  -- over the same journal, with more seen
  pub grants_on : (old new : GrantLog D g) (past now : Past) → log_journal new ≡ log_journal old → IsOlder past now → GrantsGrow setting copy before since old past → GrantsGrow setting copy before since new now
  grants_on old new past now same older grown = grants_seen new past now older (subst (λ (j : Journal D g). GrownSince since before (AreGrantsBy setting copy past) (g.view (disk_of j))) (sym same) grown)

  -- a journal that has the records from before it, and no others
  pub grants_first : (journal : Journal D g) (past : Past) → since ≡ (g.view (disk_of journal)).moment → IsUp journal → Keeps journal before
      → ((c : List ℕ) → (g.view (disk_of journal)).left_at (g.view (disk_of journal)).moment c ↔ (g.view (disk_of journal)).may_leave c) → GrownSince since before (AreGrantsBy setting copy past) (g.view (disk_of journal))
  grants_first journal past is up keeps now = grown_first since before g.view (disk_of journal) (AreGrantsBy setting copy past) is (λ c left. ([], none, subst (λ (b : List (List ℕ)). HasRecords b c) (sym (append-nil before)) (kept_has journal before c up keeps ((now c).0 left))))
    where
      none : AreGrantsBy setting copy past []
      none = record { earlier = []; older = (past, sym (append-nil past)); untold = None; may = tt; given = []; these = inl refl; are = refl }

  -- brought up, and then over the same journal
  pub grants_risen : (old mid new : GrantLog D g) (past now : Past) → ((c : List ℕ) → (g.view (disk_of (log_journal old))).left_at (g.view (disk_of (log_journal old))).moment c ↔ (g.view (disk_of (log_journal old))).may_leave c)
      → Leaves (log_journal old) (log_journal mid) (g.view (disk_of (log_journal old))).may_leave → Falls (log_journal old) (log_journal mid) → log_journal new ≡ log_journal mid → IsOlder past now
      → GrantsGrow setting copy before since old past → GrantsGrow setting copy before since new now
  grants_risen old mid new past now law run falls same older grown = grants_on mid new past now same older (grown_falls since before g.view (disk_of (log_journal old)) (disk_of (log_journal mid)) (AreGrantsBy setting copy past) law run falls grown)
