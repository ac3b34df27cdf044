-- Tuples that a function gives by copy and record.
use Rattle.std.proofs.Common.{◌≡◌, ℕ, ◌<◌, List, [], length, get_or, ap, ◌∙◌, arith}
use Rattle.std.specs.Prelude.{map}
use Rattle.std.specs.List.{range_with_len}
use Rattle.std.proofs.lemmas.List.FromFn.{length-map-range_with_len, get_or-map-range_with_len, fill_by_all}
use Rattle.qc_config.specs.declared.tuple.Tuple.{Tuple}
use Rattle.qc_event.specs.Base.{no_tuple, start_tuple}

abbrev pub grid_row : ℕ → (ℕ → ℕ → Tuple) → ℕ → List Tuple
grid_row records f copy = map (f copy) (range_with_len 0 records)

abbrev pub grid : ℕ → ℕ → (ℕ → ℕ → Tuple) → List (List Tuple)
grid copies records f = map (grid_row records f) (range_with_len 0 copies)

module _ (copies records : ℕ) (f : ℕ → ℕ → Tuple) where
  pub grid_copies : length (grid copies records f) ≡ copies
  grid_copies = length-map-range_with_len (grid_row records f) 0 copies

  pub grid_at : (copy rec : ℕ) → copy < copies → rec < records → start_tuple (grid copies records f) copy rec ≡ f copy rec
  grid_at copy rec here there =
      ap (λ (tuples : List Tuple). get_or tuples rec no_tuple) (get_or-map-range_with_len (grid_row records f) 0 copies copy copy [] here (omega arith))
      ∙ get_or-map-range_with_len (f copy) 0 records rec rec no_tuple there (omega arith)

  -- rows of so many records are the grid where each tuple is
  pub grid_is : (rows : List (List Tuple)) → length rows ≡ copies → ((copy : ℕ) → copy < copies → length (get_or rows copy []) ≡ records)
      → ((copy rec : ℕ) → copy < copies → rec < records → start_tuple rows copy rec ≡ f copy rec) → rows ≡ grid copies records f
  grid_is rows many each same =
      fill_by_all (grid_row records f) rows copies [] many
      (λ copy here. fill_by_all (f copy) (get_or rows copy []) records no_tuple (each copy here) (λ rec there. same copy rec here there))

  -- so are two grids that agree
  pub grids_agree : (g : ℕ → ℕ → Tuple) → ((copy rec : ℕ) → copy < copies → rec < records → g copy rec ≡ f copy rec) → grid copies records g ≡ grid copies records f
  grids_agree g same =
      fill_by_all (grid_row records f) (grid copies records g) copies [] (length-map-range_with_len (grid_row records g) 0 copies)
      (λ copy here.
      get_or-map-range_with_len (grid_row records g) 0 copies copy copy [] here (omega arith)
      ∙ fill_by_all (f copy) (grid_row records g copy) records no_tuple (length-map-range_with_len (g copy) 0 records)
      (λ rec there. get_or-map-range_with_len (g copy) 0 records rec rec no_tuple there (omega arith) ∙ same copy rec here there))
