-- A pair that was folded is found in the current format.
use Rattle.std.proofs.Common.{◌≡◌, ℕ, ◌+◌, ◌<◌, ◌≤◌, inl, inr, List, [], ◌∷◌, length, refl, sym, ap, ap₂, ◌∙◌, subst, arith}
use Rattle.std.specs.List.{cons_option}
use Rattle.std.specs.Prelude.{Bool, true, false, not, if◌then◌else◌, nat_lt, Option, None, Some, IfSome, IsSome, is_some, MatchOption}
use Rattle.std.proofs.lemmas.Bool.{lt-ltb, ltb-true}
use Rattle.std.proofs.lemmas.Option.{IfSome_then}
use Rattle.qc_codec.specs.Base.{active, base_in, copy_base, current_copy_base, format_in, is_swapped, number_of_base, tuples_of_base}
use Rattle.qc_codec.specs.Bodies as body
use Rattle.qc_codec.specs.Copy.{MayStand, grant_in, granted_in}
use Rattle.qc_codec.specs.Fields.{current, current_format}
use Rattle.qc_codec.specs.Form.{all_of}
use Rattle.qc_codec.specs.Ledger.{made_for, readings}
use Rattle.qc_codec.specs.Restored.{is_kept, restored_row}
use Rattle.qc_codec.specs.declared.past.Past.{Past}
use Rattle.qc_codec.specs.declared.record.BaseRecord.{BaseRecord}
use Rattle.qc_codec.specs.declared.record.Made.{Made}
use Rattle.qc_codec.proofs.Bases.{base_behind, format_behind}
use Rattle.qc_codec.proofs.Bodies.{exact_base, exact_made}
use Rattle.qc_codec.proofs.Exact.{all_again}
use Rattle.qc_codec.proofs.Order.{each_none, each_push}
use Rattle.qc_desk.specs.Held.{from_row}
use Rattle.qc_desk.proofs.Rows.{row_none}
use Rattle.qc_event.specs.declared.event.Grant.{Grant}
use Rattle.qc_event.specs.declared.table.Table.{Table}
use Rattle.qc_disk.specs.Disk.{IsImage, Steps}
use Rattle.qc_disk.specs.declared.disk.Disk.{Ghosts}
use Rattle.qc_journal.specs.Image.{HasRecords}
use Rattle.qc_journal.specs.Journal.{disk_of, limit_of, Keeps}
use Rattle.qc_journal.specs.declared.journal.Journal.{Journal}
use Rattle.qc_ledger.proofs.Writing.{kept_has}
use Rattle.qc_pair.specs.Fold.{other_in, swapped_in}
use Rattle.qc_pair.specs.Folding.{HasNoRoom}
use Rattle.qc_pair.specs.Opening.{active_told, HaveActive, TellWhich}
use Rattle.qc_pair.proofs.Halves.{active_has}
use Rattle.qc_pair.specs.Pair.{number_at}
use Rattle.qc_pair.specs.declared.fold.Fold.{Fold}
use Rattle.qc_pair.specs.Front.{number_in, MayBegin, MayStandSecond}
use Rattle.qc_pair.specs.declared.kind.Kind.TheVariants as kind
use Rattle.qc_site.specs.Image.{made_body, AreGranted, AreMountableAsCopy}
use Rattle.qc_site.specs.Mounted.{copy_of, journal_of, records_of, MountsCopy}
use Rattle.qc_site.specs.Pairs.{FindsCopyPair, MountsCopyPair}
use Rattle.qc_site.specs.Renewal.{renewed, renewed_base, renewed_body, restored_in, AreOlder, TellsNow}
use Rattle.qc_site.specs.Renewing.{Renews}
use Rattle.qc_site.specs.Start.{start_of}
use Rattle.qc_site.specs.declared.mounted.Mounted.{Mounted}
use Rattle.qc_site.proofs.PairRenewals.{older_records}
use Rattle.qc_site.proofs.RestoredFit.{restored_size}
use Rattle.qc_site.proofs.Rests.{base_no_grant, made_no_grant, made_stands}

-- WHAT THE BODIES BECAME

module _ (disk : ℕ) (table : Table) (past : Past) (found : List (List ℕ)) (made_fits : body.made.fits (made_for disk table)) (base_fits : (current_copy_base table).fits (renewed_base table past found)) where
  abbrev bodies : List (List ℕ)
  bodies = renewed table past found disk

  base_read : base_in copy_base bodies ≡ Some (renewed_base table past found)
  base_read =
      base_behind copy_base (made_for disk table) (renewed_body table past found) [] made_fits
      ∙ all_again (current_copy_base table) (exact_base (current table.copies) (length table.records)) (renewed_base table past found) base_fits

  pub renewed_number : number_in kind.Copy bodies ≡ number_in kind.Copy found + 1
  renewed_number = ap number_of_base base_read

  pub renewed_format : format_in bodies ≡ current_format
  renewed_format = format_behind (made_for disk table) (renewed_body table past found ∷ []) made_fits

  made_tells : all_of body.made (made_body disk table) ≡ Some (made_for disk table)
  made_tells = all_again body.made exact_made (made_for disk table) made_fits

  -- they are a copy's in order, with room behind them
  pub renewed_granted : AreGranted disk table past bodies
  renewed_granted = record {
    made = (current_format, made_tells);
    order = each_push (MayStand disk table past) (made_body disk table ∷ []) (renewed_body table past found)
        (each_push (MayStand disk table past) [] (made_body disk table) (each_none (MayStand disk table past)) (made_stands disk table past (made_body disk table) current_format table made_tells))
        (inl (subst (λ (o : Option BaseRecord). MatchOption o ⊥ (λ (b : BaseRecord). b.epoch ≤ past.epoch)) (sym base_read) (omega arith)));
  }

  pub renewed_mountable : (limit : ℕ) → AreMountableAsCopy disk table past limit bodies
  renewed_mountable limit = record { granted = renewed_granted; room = λ place full. full }

  -- they grant nothing, and restore what those before them did
  renewed_grants : granted_in table bodies ≡ []
  renewed_grants =
      ap (λ (format : ℕ). readings (grant_in format table) bodies) renewed_format
      ∙ ap₂ (λ (o p : Option Grant). cons_option o (cons_option p [])) (made_no_grant disk table past current_format (made_body disk table) (made_stands disk table past (made_body disk table) current_format table made_tells))
      (base_no_grant (made_for disk table) current_format table (renewed_body table past found) (renewed_base table past found)
      (all_again (current_copy_base table) (exact_base (current table.copies) (length table.records)) (renewed_base table past found) base_fits))

  pub renewed_restores : restored_in past.tops table bodies ≡ restored_in past.tops table found
  renewed_restores =
      let held = restored_in past.tops table found in
      ap₂ (λ (gs : List Grant) (base : Option BaseRecord). restored_row past.tops (length table.records) (from_row (tuples_of_base table base)) gs) renewed_grants base_read
      ∙ ap (λ (n : ℕ). restored_row past.tops n (from_row held) []) (sym (restored_size table past.tops found))
      ∙ row_none (is_kept past.tops) held

  -- they may begin the disk
  pub renewed_begins : MayBegin kind.Copy disk bodies
  renewed_begins =
      subst (λ (o : Option Made). MatchOption o ⊥ (λ (made : Made). (made.who ≡ disk) × MayStandSecond kind.Copy made (renewed_body table past found))) (sym made_tells)
      (refl, inl (ap is_some (all_again (current_copy_base table) (exact_base (current table.copies) (length table.records)) (renewed_base table past found) base_fits)))

-- WHICH ARE ACTIVE

-- bodies of the next number are active beside those of one
module _ (one next : List (List ℕ)) (greater : number_in kind.Copy next ≡ number_in kind.Copy one + 1) where
  pub next_spare : is_swapped copy_base one next ≡ true
  next_spare = lt-ltb (number_in kind.Copy one) (number_in kind.Copy next) (omega (arith, greater))

  pub next_own : is_swapped copy_base next one ≡ false
  next_own = by (nat_lt (number_in kind.Copy next) (number_in kind.Copy one)) refl
    where
      by : (b : Bool) → nat_lt (number_in kind.Copy next) (number_in kind.Copy one) ≡ b → nat_lt (number_in kind.Copy next) (number_in kind.Copy one) ≡ false
      by true is = absurd (omega (arith, greater, ltb-true (number_in kind.Copy next) (number_in kind.Copy one) is))
      by false is = is

-- THE PAIR

module _ {D : Type 0} {g : Ghosts D} (copy : ℕ) (table : Table) (past : Past) (limit format : ℕ) (told spare_told : Option (List ℕ)) (m : Mounted D g) (f : Fold D g) (finds : FindsCopyPair copy table past limit format told spare_told m f)
    (older : AreOlder finds.mounts.found) (same_copy : copy_of m ≡ copy) (m' : Mounted D g) (f' : Fold D g) (renews : Renews table past m f m' f') (fits : (disk : ℕ) → disk < 256 → body.made.fits (made_for disk table)) (small : copy + 18 < 256)
    (law : (disk : D) → IsImage (g.view disk).content (g.view disk).may_leave) where
  abbrev before : List (List ℕ)
  before = finds.mounts.found

  abbrev which : Bool
  which = swapped_in f

  abbrev other : ℕ
  other = number_at (not which) (copy + 1)

  -- the records are those found
  records_found : records_of m ≡ before
  records_found = finds.mounts.all ∙ older_records (number_at which (copy + 1)) table before older

  -- the disk that was folded into
  abbrev after : Option (List ℕ)
  after = (g.view (disk_of (journal_of m'))).content

  abbrev kept : Option (List ℕ) → Option (List ℕ)
  kept None = None
  kept (Some image) = after

  abbrev now : Option (List ℕ)
  now = if which then kept told else told

  abbrev spare_now : Option (List ℕ)
  spare_now = if which then spare_told else kept spare_told

  -- what the bodies became
  abbrev next : List (List ℕ)
  next = renewed table past before other

  base_fits : (current_copy_base table).fits (renewed_base table past before)
  base_fits = subst (λ (l : List (List ℕ)). (current_copy_base table).fits (renewed_base table past l)) records_found renews.fits

  records_next : records_of m' ≡ next
  records_next = renews.records ∙ ap₂ (λ (l : List (List ℕ)) (c : ℕ). renewed table past l (number_at (not which) (c + 1))) records_found same_copy

  other_small : other < 256
  other_small = by (not which)
    where
      by : (s : Bool) → number_at s (copy + 1) < 256
      by true = omega (arith, small)
      by false = omega (arith, small)

  -- the other disk keeps them
  keeps_next : IsSome (if which then told else spare_told) → Keeps (journal_of m') next
  keeps_next some = subst (Keeps (journal_of m')) records_next (renews.keeps _ (finds.opens.keeps_other some))

  -- what it tells then has them
  abbrev HasNext : Type 0
  HasNext = (image : List ℕ) × (after ≡ Some image) × HasRecords next image

  next_image : IsSome (if which then told else spare_told) → HasNext
  next_image some =
      let k = keeps_next some in
      (k.bytes, k.told, kept_has (journal_of m') next k.bytes renews.up k (subst (λ o. IsImage o (g.view (disk_of (journal_of m'))).may_leave) k.told (law (disk_of (journal_of m')))))

  -- WHAT BOTH TELL

  steps : (o : Option (List ℕ)) → (IsSome o → HasNext) → Steps (λ before after. HasRecords next after) o (kept o)
  steps None has = refl
  steps (Some image) has = has refl

  told_next : (o : Option (List ℕ)) (P : List ℕ → Type 0) → (IsSome o → (image : List ℕ) → after ≡ Some image → P image) → IfSome (kept o) P
  told_next None P has = tt
  told_next (Some image) P has = by after refl
    where
      by : (x : Option (List ℕ)) → after ≡ x → IfSome x P
      by None is = tt
      by (Some bytes) is = has refl bytes is

  some_kept : (o : Option (List ℕ)) → IsSome (kept o) → IsSome o
  some_kept None some = some
  some_kept (Some image) some = refl

  same_by : (s : Bool) → (if s then (if s then spare_told else kept spare_told) else (if s then kept told else told)) ≡ (if s then spare_told else told)
  same_by true = refl
  same_by false = refl

  folded_by : (s : Bool) → (IsSome (if s then told else spare_told) → HasNext)
      → Steps (λ before after. HasRecords next after) (if s then told else spare_told) (if s then (if s then kept told else told) else (if s then spare_told else kept spare_told))
  folded_by true has = steps told has
  folded_by false has = steps spare_told has

  pub tells_now : TellsNow copy table told spare_told past now spare_now
  tells_now = inr (record {
    is_spare = which;
    found = before;
    pair = record { have = finds.opens.have; older = older };
    fits = base_fits;
    same = same_by which;
    folded = folded_by which next_image;
  })

  -- WHAT IS FOUND THEN

  abbrev made_fits : body.made.fits (made_for other table)
  made_fits = fits other other_small

  is_next : (image : List ℕ) → HasNext → after ≡ Some image → HasRecords next image
  is_next image has is = let same : has.0 ≡ image = cc in subst (HasRecords next) same has.2

  next_by : (s : Bool) (P : List ℕ → Type 0) → (IsSome (if s then told else spare_told) → (image : List ℕ) → after ≡ Some image → P image)
      → IfSome (if (not s) then (if s then spare_told else kept spare_told) else (if s then kept told else told)) P
  next_by true P has = told_next told P has
  next_by false P has = told_next spare_told P has

  swapped_next : swapped_in f' ≡ not which
  swapped_next = renews.exchanged.swapped

  mounts_next : MountsCopy (number_at (swapped_in f') (copy + 1)) table past limit current_format (if swapped_in f' then spare_now else now) (records_of m')
  mounts_next = record {
    found = next;
    format_is = renewed_format other table past before made_fits base_fits;
    granted = subst (λ t. AreGranted (number_at t (copy + 1)) table past next) (sym swapped_next) (renewed_granted other table past before made_fits base_fits);
    fine = subst (λ t. IfSome (if t then spare_now else now) (λ bytes. HasRecords next bytes × AreMountableAsCopy (number_at t (copy + 1)) table past limit next)) (sym swapped_next)
        (next_by which (λ bytes. HasRecords next bytes × AreMountableAsCopy other table past limit next) (λ some image is. (is_next image (next_image some) is, renewed_mountable other table past before made_fits base_fits limit)));
    all = records_next;
  }

  -- WHICH IS ACTIVE THEN

  abbrev own_next : List (List ℕ)
  own_next = if which then next else before

  abbrev spare_next : List (List ℕ)
  spare_next = if which then before else next

  greater : number_in kind.Copy next ≡ number_in kind.Copy before + 1
  greater = renewed_number other table past before made_fits base_fits

  -- the bodies that were active stood on their disk, and may begin it
  begins_by : (s : Bool) → which ≡ s → MayBegin kind.Copy (number_at s (copy + 1)) before
  begins_by true is =
      subst (MayBegin kind.Copy (copy + 1 + 17)) (sym (finds.opens.have.are_active ∙ ap (λ (b : Bool). if b then finds.opens.have.spare else finds.opens.have.own) (sym finds.opens.have.swapped_is ∙ is))) finds.opens.have.tell.spare_begins
  begins_by false is =
      subst (MayBegin kind.Copy (copy + 1)) (sym (finds.opens.have.are_active ∙ ap (λ (b : Bool). if b then finds.opens.have.spare else finds.opens.have.own) (sym finds.opens.have.swapped_is ∙ is))) finds.opens.have.tell.own_begins

  tell_by : (s : Bool) → which ≡ s → MayBegin kind.Copy (number_at (not s) (copy + 1)) next → TellWhich kind.Copy (copy + 1) (if s then next else before) (if s then before else next)
  tell_by true is begins = record { own_begins = begins; spare_begins = begins_by true is; differ = λ same. omega (arith, same.0, greater) }
  tell_by false is begins = record { own_begins = begins_by false is; spare_begins = begins; differ = λ same. omega (arith, same.0, greater) }

  active_by_next : (s : Bool) → next ≡ active copy_base (if s then next else before) (if s then before else next)
  active_by_next true = sym (ap (λ (b : Bool). if b then before else next) (next_own before next greater))
  active_by_next false = sym (ap (λ (b : Bool). if b then next else before) (next_spare before next greater))

  swapped_by_next : (s : Bool) → not s ≡ is_swapped copy_base (if s then next else before) (if s then before else next)
  swapped_by_next true = sym (next_own before next greater)
  swapped_by_next false = sym (next_spare before next greater)

  has_before : IfSome (if which then spare_told else told) (HasRecords before)
  has_before = active_has kind.Copy (copy + 1) told spare_told which before finds.opens.have

  own_has_by : (s : Bool) → IfSome (if s then spare_told else told) (HasRecords before) → (IsSome (if s then told else spare_told) → HasNext) → IfSome (if s then kept told else told) (HasRecords (if s then next else before))
  own_has_by true has then_has = told_next told (HasRecords next) (λ some image is. is_next image (then_has some) is)
  own_has_by false has then_has = has

  spare_has_by : (s : Bool) → IfSome (if s then spare_told else told) (HasRecords before) → (IsSome (if s then told else spare_told) → HasNext) → IfSome (if s then spare_told else kept spare_told) (HasRecords (if s then before else next))
  spare_has_by true has then_has = has
  spare_has_by false has then_has = told_next spare_told (HasRecords next) (λ some image is. is_next image (then_has some) is)

  have_next : HaveActive kind.Copy (copy + 1) now spare_now (swapped_in f') next
  have_next = record {
    own = own_next;
    spare = spare_next;
    has_own = own_has_by which has_before next_image;
    has_spare = spare_has_by which has_before next_image;
    tell = tell_by which refl (renewed_begins other table past before made_fits base_fits);
    are_active = active_by_next which;
    swapped_is = swapped_next ∙ swapped_by_next which;
  }

  -- THE JOURNALS

  -- the one that was active keeps what it had
  keeps_before : IsSome (if which then spare_told else told) → Keeps (other_in f') before
  keeps_before some = subst (λ (j : Journal D g). Keeps j before) (sym renews.exchanged.other) (subst (Keeps (journal_of m)) records_found (finds.keeps some))

  other_by : (s : Bool) → (IsSome (if s then spare_told else told) → Keeps (other_in f') before)
      → IsSome (if (not s) then (if s then kept told else told) else (if s then spare_told else kept spare_told)) → Keeps (other_in f') (if (not s) then (if s then next else before) else (if s then before else next))
  other_by true keeps some = keeps some
  other_by false keeps some = keeps some

  active_by : (s : Bool) → (IsSome (if s then told else spare_told) → Keeps (journal_of m') (records_of m'))
      → IsSome (if (not s) then (if s then spare_told else kept spare_told) else (if s then kept told else told)) → Keeps (journal_of m') (records_of m')
  active_by true keeps some = keeps (some_kept told some)
  active_by false keeps some = keeps (some_kept spare_told some)

  -- it is found so, and mounted
  finds_next : FindsCopyPair copy table past limit current_format now spare_now m' f'
  unfolding mounts_next have_next
  finds_next = record {
    mounts = mounts_next;
    opens = record {
      have = have_next;
      number_is = renews.exchanged.number ∙ ap (λ (n : ℕ). n + 1) finds.opens.number_is ∙ sym greater;
      keeps_other = subst (λ t. IsSome (if t then now else spare_now) → Keeps (other_in f') (if t then own_next else spare_next)) (sym swapped_next) (other_by which keeps_before);
    };
    keeps = subst (λ t. IsSome (if t then spare_now else now) → Keeps (journal_of m') (records_of m')) (sym swapped_next)
        (active_by which (λ some. renews.keeps _ (finds.opens.keeps_other some)));
  }

  -- the disk that was folded into had room
  room_by : limit_of (other_in f) ≡ limit → (place : ℕ) → HasNoRoom (number_in kind.Copy before) limit (made_body other table) (renewed_body table past before) place → ⊥
  room_by limit_is =
      subst (λ (c : ℕ). Room before limit (number_at (not which) (c + 1))) same_copy
      (subst (λ (n : ℕ). Room before n (number_at (not which) (copy_of m + 1))) limit_is
      (subst (λ (l : List (List ℕ)). Room l (limit_of (other_in f)) (number_at (not which) (copy_of m + 1))) records_found renews.room))
    where
      Room : List (List ℕ) → ℕ → ℕ → Type 0
      Room l n disk = (place : ℕ) → HasNoRoom (number_in kind.Copy l) n (made_body disk table) (renewed_body table past l) place → ⊥

  pub renewed_mounts : limit_of (other_in f) ≡ limit → MountsCopyPair copy table past limit told spare_told m' f'
  renewed_mounts limit_is = record {
    now = now;
    spare_now = spare_now;
    tells = tells_now;
    was = record {
      is_spare = which;
      found = before;
      have = finds.opens.have;
      fine = IfSome_then (active_told kind.Copy (copy + 1) told spare_told which) finds.mounts.fine (λ bytes fine. record { mountable = fine.1; room = λ place full. room_by limit_is place full.1 });
    };
    finds = finds_next;
  }

  -- and starts with what it restores
  pub renewed_start : start_of m ≡ restored_in past.tops table (records_of m) → start_of m' ≡ restored_in past.tops table (records_of m')
  renewed_start is =
      renews.same_start ∙ is ∙ ap (restored_in past.tops table) records_found
      ∙ sym (renewed_restores other table past before made_fits base_fits) ∙ ap (restored_in past.tops table) (sym records_next)
