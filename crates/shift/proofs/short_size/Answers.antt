-- Four times a float up to the largest shift that comes back from a whole number was one, and above it there is none to answer (`Floats`).
use Rattle.std.proofs.Common.{true, false, sym, arith}
use lib.Ieee.{of_bits, of_int}
use Rattle.shift.proofs.Floats.{low, high, castable, cut_low, four_times, four-times, size-by}
use Rattle.shift.proofs.short_size.Goals as goal

pub truncating_f32_to_u64-n-requires : goal.truncating_f32_to_u64-n-requires
unfolding of_bits of_int
truncating_f32_to_u64-n-requires c =
    let h = castable (four_times c.args.y) (four-times _ c.well_formed.0.1 (low _ c.requires c.if-y.true)).0 in
    record { lower_bound = h.0; upper_bound = h.1 }

pub overflow_cast-n : goal.overflow_cast-n
unfolding of_bits of_int
overflow_cast-n c =
    omega (
      arith,
      c.truncating_f32_to_u64-n.ensures,
      cut_low (four_times c.args.y)
          (four-times _ c.well_formed.0.1 (low _ c.requires c.if-y.true)).0,
    )

pub returns-then-back-z : goal.returns-then-back-z
unfolding of_bits of_int
returns-then-back-z c =
    record {
      value = size-by c.args.y c.well_formed.0.1 (low _ c.requires c.if-y.true) _ _ true
          c.truncating_f32_to_u64-n.ensures c.nearest_u32_to_f32-back.ensures c.if-back-z.true;
      below = omega (
        arith,
        c.truncating_f32_to_u64-n.ensures,
        cut_low (four_times c.args.y) (four-times _ c.well_formed.0.1 (low _ c.requires c.if-y.true)).0,
      );
    }

pub returns-else-back-z : goal.returns-else-back-z
unfolding of_bits of_int
returns-else-back-z c =
    record {
      value = size-by c.args.y c.well_formed.0.1 (low _ c.requires c.if-y.true) _ _ false
          c.truncating_f32_to_u64-n.ensures c.nearest_u32_to_f32-back.ensures c.if-back-z.false;
      below = tt;
    }

pub returns-else-y : goal.returns-else-y
unfolding of_bits of_int
returns-else-y c = record {
  value = sym (high _ c.requires c.if-y.false);
  below = tt;
}
