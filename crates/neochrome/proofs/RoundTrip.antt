-- Demand 2 of NEOchrome files: what is written is read back, without its tail.
use Rattle.std.specs.Prelude.{Ok, Some}
use mathlib.Core.Path.{◌≡◌, ap, ◌∙◌}
use mathlib.Core.List.{List}
use Prim.Native.Nat.{ℕ, ◌≤◌}
use native.Mathlib.Omega.{arith}
use lib.ListN.{length, take}
use lib.Seq.{take_all, length-take-le}
use Rattle.outcome.specs.Outcome.{Outcome, bind, Judged}
use Rattle.resolution.specs.declared.Resolution.{Resolution}
use Rattle.resolution.specs.Shapes.{screen_bytes}
use Rattle.resolution.specs.Choice.{chosen}
use Rattle.resolution.proofs.Choice.{number-chosen}
use Rattle.picture.specs.declared.Picture.{Picture}
use Rattle.picture.specs.Whole.{WholePicture}
use Rattle.picture.specs.Writing.{Writing, raw_writing}
use Rattle.picture.proofs.Writing.{judge-elim}
use Rattle.neochrome.specs.Layout.{neochrome_file}
use Rattle.neochrome.specs.Reading.{read_neochrome}
use Rattle.neochrome.specs.Writing.{write_neochrome, neochrome_back}
use Rattle.neochrome.specs.Accepts.{AcceptsNeochrome}
use Rattle.neochrome.proofs.FileLayout.{length-file, file-flag, file-resolution, file-palette, file-screen}
use Rattle.neochrome.proofs.Acceptance.{neochrome-complete}

module _ (p : Picture) (screen : List ℕ) where
  abbrev file : List ℕ
  file = neochrome_file p screen

  -- what is written fits
  pub written-accepts : WholePicture p → (r : Resolution) → chosen p.resolution ≡ Some r
      → screen_bytes ≤ length screen → AcceptsNeochrome file
  written-accepts whole r known full = record {
    resolution = r;
    flag = file-flag p whole screen;
    allowed = ap chosen (file-resolution p whole screen) ∙ known;
    fits = length-file p whole screen full;
  }

  module _ (out : ℕ) (whole : WholePicture p) (area : ℕ) (room : screen_bytes ≤ area) where
    module _ (r : Resolution) (known : chosen p.resolution ≡ Some r) (full : screen_bytes ≤ length screen) where
      file-back : read_neochrome file area
          ≡ Ok (neochrome_back p screen (record { file = file; body = 0; records = 0 }))
      unfolding written-accepts
      file-back =
          neochrome-complete file area room (written-accepts whole r known full)
          ∙ rw (
            number-chosen p.resolution r known,
            file-palette p whole screen,
            file-screen p whole screen,
            take_all screen_bytes (take screen_bytes screen) (omega (arith, length-take-le screen_bytes screen full)),
          )

    -- an accepted writing's file, read
    abbrev pub ReadsBack : Writing → Type 0
    ReadsBack w = read_neochrome w.file area ≡ Ok (neochrome_back p screen w)

    pub neochrome-back : Judged ReadsBack (write_neochrome p screen out)
    unfolding write_neochrome
    neochrome-back =
        judge-elim (length screen) out p.resolution
        (λ (o : Outcome Resolution). Judged ReadsBack (bind o (λ r. raw_writing (neochrome_file p screen))))
        (λ n. omega arith)
        (λ n. omega arith)
        (λ r a. file-back r a.known a.screen-fits)
