-- Each way is drawn by its own function, and what the next line takes is what this one had, with the lower mask row moved on by one.
use mathlib.Core.Path.{subst}
use native.Mathlib.Omega.{arith}
use Rattle.lines.specs.declared.Way.{Way}
use Rattle.lines.specs.Internal.{WayReady}
use Rattle.lines.proofs.draw_line.Goals as goal

pub whole_line-requires : goal.whole_line-requires
whole_line-requires c =
    let m = subst (λ (x : Way). WayReady x c.args.pixels.now c.args.g c.args.masks.now
    c.args.shades.filled c.args.row
    c.args.upper.now c.args.lower.now) c.in-Whole.is c.requires.1.1 in
    (c.requires.0, (c.requires.1.0, m))

pub quarter_line-requires : goal.quarter_line-requires
quarter_line-requires c =
    let m = subst (λ (x : Way). WayReady x c.args.pixels.now c.args.g c.args.masks.now
    c.args.shades.filled c.args.row
    c.args.upper.now c.args.lower.now) c.in-Quarters.is c.requires.1.1 in
    (c.requires.0, (c.requires.1.0, m))

pub returns-in-Native : goal.returns-in-Native
returns-in-Native c =
    rw c.in-Native.is (record { levels_after = c.native_line.ensures; way_ready = tt })

pub returns-in-Whole : goal.returns-in-Whole
returns-in-Whole c =
    let m = subst (λ (x : Way). WayReady x c.args.pixels.now c.args.g c.args.masks.now
    c.args.shades.filled c.args.row
    c.args.upper.now c.args.lower.now) c.in-Whole.is c.requires.1.1 in
    rw c.in-Whole.is (record {
      levels_after = c.whole_line.ensures;
      way_ready = record {
        masked = m.masked;
        is-filled = m.is-filled;
        down-whole = m.down-whole;
        right-whole = m.right-whole;
        room = omega (arith, m.room, c.whole_line.auto.sums);
      };
    })

pub returns-in-Quarters : goal.returns-in-Quarters
returns-in-Quarters c =
    let m = subst (λ (x : Way). WayReady x c.args.pixels.now c.args.g c.args.masks.now
    c.args.shades.filled c.args.row
    c.args.upper.now c.args.lower.now) c.in-Quarters.is c.requires.1.1 in
    rw c.in-Quarters.is (record {
      levels_after = c.quarter_line.ensures.levels_after;
      way_ready = record {
        masked = m.masked;
        above = omega (arith, m.above, c.quarter_line.auto.upper);
        below = omega (arith, m.below, c.quarter_line.auto.lower);
        averaged = c.quarter_line.ensures.averaged;
      };
    })
