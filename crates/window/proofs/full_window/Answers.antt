-- A width of 2^stored, up to 65,536, is at least 1 and below a million, so the window can be drawn.
use mathlib.Core.Path.{refl}
use Prim.Native.Nat.{◌*◌}
use native.Mathlib.Omega.{arith}
use borrow.Author.Tests.{le-leb}
use Rattle.value.specs.Number.{unit}
use Rattle.window.specs.Window.{full_window}
use Rattle.window.proofs.full_window.Goals as goal

pub returns : goal.returns
unfolding full_window
returns c = (
  rw c.power-full.ensures.0,
  record {
    ruled = record { number = refl; function = refl; wide = le-leb unit (unit * c.power-full.result) (omega arith) };
    near = omega arith;
    narrow = omega arith;
  },
)
