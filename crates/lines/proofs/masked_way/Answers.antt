-- Two offsets draw the cells that the moves draw; whole offsets need one mask row, and for others the first upper row is averaged here.
use native.Mathlib.Omega.{arith}
use Rattle.value.specs.Number.{us_values}
use Rattle.pixel.proofs.Blend.{offset-shade}
use Rattle.lines.proofs.masked_way.Goals as goal

pub returns-then-right-eq0 : goal.returns-then-right-eq0
returns-then-right-eq0 c =
    record {
      ready = λ upper room. record {
        masked = record {
          taken = c.requires.1.0;
          down-most = c.offset_of-down.ensures.most;
          right-most = c.offset_of-right.ensures.most;
        };
        is-filled = c.if-filled.true;
        down-whole = c.if-down-eq0.true;
        right-whole = c.if-right-eq0.true;
        room = room;
      };
      shades = λ t f i. offset-shade t c.args.g c.args.pixels.now f (us_values c.args.masks.now)
          c.args.moves
          c.offset_of-down.result c.offset_of-right.result i c.offset_of-down.ensures
          c.offset_of-right.ensures;
    }

pub average_row-requires : goal.average_row-requires
average_row-requires c =
    (c.requires.0, (c.requires.1.0, (c.moved.ensures.1, omega (arith, c.requires.0.columns-most, c.requires.1.1.1))))

pub returns : goal.returns
returns c =
    record {
      ready = λ upper room. record {
        masked = record {
          taken = c.requires.1.0;
          down-most = c.offset_of-down.ensures.most;
          right-most = c.offset_of-right.ensures.most;
        };
        above = room;
        below = omega (arith, c.requires.1.1.1);
        averaged = rw c.moved.ensures.0 at c.average_row.ensures;
      };
      shades = λ t f i. offset-shade t c.args.g c.args.pixels.now f (us_values c.args.masks.now)
          c.args.moves
          c.offset_of-down.result c.offset_of-right.result i c.offset_of-down.ensures
          c.offset_of-right.ensures;
    }
