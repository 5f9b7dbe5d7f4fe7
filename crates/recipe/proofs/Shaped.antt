-- What a run shows by what its shape answers.
-- Assumes nothing.
use mathlib.Core.Path.{◌≡◌, ap, sym, ◌∙◌, subst}
use mathlib.Core.Bool.{true, false}
use mathlib.Core.List.{List}
use Prim.Native.Nat.{ℕ, ◌≤◌, ◌<◌}
use lib.Dec.{eqb}
use lib.ListN.{length}
use Rattle.std.specs.Prelude.{Result, Ok, Err}
use Rattle.checked.specs.declared.refusal.RefusedAt.{RefusedAt}
use Rattle.checked.specs.Paper.{number_of}
use Rattle.checked.proofs.Unique.{not-zero}
use Rattle.shape.specs.Items.{items}
use Rattle.shape.specs.Shape.{Verdict, refused, well_formed, Good, shape_of}
use Rattle.shape.specs.Answers.{verdict}
use Rattle.shape.proofs.Shapes.{shape-good}
use Rattle.steps.specs.Steps.{after, start}
use Rattle.recipe.specs.Run.{Shown, shown, ended, refused_at, run_of}

module _ (W : ℕ) (ks ns : List ℕ) (a : ℕ) where
  runs : Verdict → Shown
  runs v = elim (eqb v.code 0) [ true ↦ shown (after v.limit a (start (items ks ns))) | false ↦ ended (refused_at v.code v.place) 0 ]

  pub run-well-formed : (M : ℕ) → shape_of W ks ns ≡ well_formed M → run_of W ks ns a ≡ shown (after M a (start (items ks ns)))
  unfolding run_of runs
  run-well-formed M e = ap runs e

  pub run-refused : (code place : ℕ) → eqb code 0 ≡ false → shape_of W ks ns ≡ refused code place → run_of W ks ns a ≡ ended (refused_at code place) 0
  unfolding run_of runs
  run-refused code place n e =
      ap runs e ∙ ap {B = Shown} (λ t. elim t [ true ↦ shown (after 0 a (start (items ks ns))) | false ↦ ended (refused_at code place) 0 ]) n

  -- ---- by the answer of the code

  module _ {s : Result ℕ RefusedAt} (is : verdict s ≡ shape_of W ks ns) where
    good : (M : ℕ) → s ≡ Ok M → shape_of W ks ns ≡ well_formed M
    good M e = sym is ∙ ap verdict e

    pub good-runs : (M : ℕ) → s ≡ Ok M → shown (after M a (start (items ks ns))) ≡ run_of W ks ns a
    good-runs M e = sym (run-well-formed M (good M e))

    -- what a well-formed recipe brings
    pub good-brings : (M : ℕ) → s ≡ Ok M → (length ks ≡ length ns) × (length ks ≤ 256) × (0 < length ks) × Good M 0 (items ks ns)
    good-brings M e =
        let w = shape-good W ks ns (ap (λ v. v.code) (good M e)) in
        let same = ap (λ v. v.limit) (sym w.5 ∙ good M e) in
        (w.1, w.3, w.2, subst (λ L. Good L 0 (items ks ns)) same w.4)

    pub refusal-runs : (r : RefusedAt) → s ≡ Err r → ended (refused_at (number_of r.refusal) r.place) 0 ≡ run_of W ks ns a
    refusal-runs r e = sym (run-refused (number_of r.refusal) r.place (not-zero r.refusal) (sym is ∙ ap verdict e))
