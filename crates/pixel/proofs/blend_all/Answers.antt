-- Invariant: c mask values are blended; each block reads places that are not written yet.
use mathlib.Core.Path.{◌≡◌, refl, sym, ap, subst, ◌∙◌}
use mathlib.Core.List.{List}
use Prim.Native.Nat.{ℕ, ◌+◌, ◌-◌, ◌^◌}
use native.Mathlib.Omega.{arith}
use lib.ListN.{length, set}
use Rattle.pixel.specs.Pixel.{blend_of}
use Rattle.pixel.specs.Internal.{painted_from, blends_at, Cells}
use Rattle.pixel.proofs.Laws.{full, power-most, from_more, from-length}
use Rattle.pixel.proofs.Blend.{block-cells, block-now, cells-more}
use Rattle.pixel.proofs.blend_all.Goals as goal

pub loop-c-init : goal.loop-c-init
unfolding painted_from
loop-c-init c =
    (omega arith, refl)

pub overflow_add-j : goal.overflow_add-j
overflow_add-j c =
    omega (arith, c.requires.shape.columns-most, c.requires.most, c.loop-c-test.true)

pub offset_bounds-upper-j : goal.offset_bounds-upper-j
offset_bounds-upper-j c =
    omega (arith, c.requires.shape.columns-most, c.requires.most, c.loop-c-test.true)

pub bounds-upper-j : goal.bounds-upper-j
bounds-upper-j c =
    omega (
      arith,
      ap length c.loop-c.invariant.1 ∙ from-length _ _ _ _,
      (c.requires.above.at
          (c.args.s + c.loop-c.c) (omega (arith, c.requires.most, c.loop-c-test.true))).0,
    )

pub overflow_add-j-in-loop-c : goal.overflow_add-j-in-loop-c
overflow_add-j-in-loop-c c =
    omega (arith, c.requires.shape.columns-most, c.requires.most, c.loop-c-test.true)

pub offset_bounds-upper-j-in-loop-c : goal.offset_bounds-upper-j-in-loop-c
offset_bounds-upper-j-in-loop-c c =
    omega (arith, c.requires.shape.columns-most, c.requires.most, c.loop-c-test.true)

pub bounds-upper-j-in-loop-c : goal.bounds-upper-j-in-loop-c
bounds-upper-j-in-loop-c c =
    omega (
      arith,
      ap length c.loop-c.invariant.1 ∙ from-length _ _ _ _,
      (c.requires.above.at (c.args.s + c.loop-c.c + 1)
          (omega (arith, c.requires.most, c.loop-c-test.true))).0,
    )

pub offset_bounds-lower-j : goal.offset_bounds-lower-j
offset_bounds-lower-j c =
    omega (arith, c.requires.shape.columns-most, c.requires.most, c.loop-c-test.true)

pub bounds-lower-j : goal.bounds-lower-j
bounds-lower-j c =
    (c.requires.below.at (c.args.s + c.loop-c.c) (omega (arith, c.requires.most, c.loop-c-test.true))).0

pub overflow_add-j-in-loop-c-2 : goal.overflow_add-j-in-loop-c-2
overflow_add-j-in-loop-c-2 c =
    omega (arith, c.requires.shape.columns-most, c.requires.most, c.loop-c-test.true)

pub offset_bounds-lower-j-in-loop-c : goal.offset_bounds-lower-j-in-loop-c
offset_bounds-lower-j-in-loop-c c =
    omega (arith, c.requires.shape.columns-most, c.requires.most, c.loop-c-test.true)

pub bounds-lower-j-in-loop-c : goal.bounds-lower-j-in-loop-c
bounds-lower-j-in-loop-c c =
    (c.requires.below.at (c.args.s + c.loop-c.c + 1) (omega (arith, c.requires.most, c.loop-c-test.true))).0

pub blended-requires : goal.blended-requires
blended-requires c = (
  subst (Cells 65535) (sym (block-now c.args.upper.now c.args.lower.now c.args.w c.args.s
      c.loop-c.c c.loop-c.upper c.loop-c.invariant.1)) (cells-more (2 ^ c.args.g.stored - 1) 65535 _
      (omega (arith, power-most c.args.g.stored c.requires.shape.stored-most)) (block-cells c.args.g
      c.args.upper.now c.args.lower.now c.requires.above c.requires.below (c.args.s + c.loop-c.c)
      (omega (arith, c.requires.most, c.loop-c-test.true)))),
  c.requires.weights,
)

pub offset_bounds-upper-j-in-loop-c-2 : goal.offset_bounds-upper-j-in-loop-c-2
offset_bounds-upper-j-in-loop-c-2 c =
    omega (arith, c.requires.shape.columns-most, c.requires.most, c.loop-c-test.true)

pub bounds-upper-j-in-loop-c-2 : goal.bounds-upper-j-in-loop-c-2
bounds-upper-j-in-loop-c-2 c =
    omega (
      arith,
      ap length c.loop-c.invariant.1 ∙ from-length _ _ _ _,
      (c.requires.above.at (c.args.s + c.loop-c.c) (omega (arith, c.requires.most, c.loop-c-test.true))).0,
    )

pub overflow_step-c : goal.overflow_step-c
overflow_step-c c =
    omega (arith, c.requires.shape.columns-most, c.loop-c-test.true)

pub loop-c-smaller : goal.loop-c-smaller
loop-c-smaller c =
    omega (arith, c.loop-c-test.true)

pub loop-c-preserved : goal.loop-c-preserved
loop-c-preserved c =
    let e : c.blended.result ≡ blends_at c.args.upper.now c.args.lower.now c.args.w c.args.s
    c.loop-c.c = c.blended.ensures ∙ ap (λ (b : List (List ℕ)). blend_of b c.args.w) (block-now
    c.args.upper.now c.args.lower.now c.args.w c.args.s c.loop-c.c c.loop-c.upper
    c.loop-c.invariant.1) in (
      omega (arith, c.loop-c-test.true),
      ap (λ (x : ℕ). set c.loop-c.upper (c.args.s + c.loop-c.c) x) e
          ∙ (ap (λ (u : List ℕ). set u (c.args.s + c.loop-c.c)
          (blends_at c.args.upper.now c.args.lower.now c.args.w c.args.s c.loop-c.c))
          c.loop-c.invariant.1
          ∙ from_more (blends_at c.args.upper.now c.args.lower.now c.args.w c.args.s)
          c.args.s c.loop-c.c c.args.upper.now),
    )

pub shape_of-upper : goal.shape_of-upper
shape_of-upper c =
    ap length c.loop-c.invariant.1 ∙ from-length _ _ _ _

pub returns : goal.returns
returns c =
    rw (full c.loop-c.invariant.0 c.loop-c-test.false) at c.loop-c.invariant.1
