-- Nothing is counted, and shades without a filled table are right whatever the table holds.
use Rattle.basics.proofs.Tests.{false-is-true}
use mathlib.Core.Path.{refl}
use native.Mathlib.Omega.{arith}
use Rattle.sheet.proofs.nothing.Goals as goal

pub full_window-requires : goal.full_window-requires
full_window-requires c =
    c.requires

pub returns : goal.returns
returns c =
    record {
      counts-are = refl;
      natives-are = refl;
      held-is = λ table.
          record {
            shaded = record { drawable = c.full_window.ensures.1; shades = λ h. absurd (false-is-true h) };
            inverse-is = refl;
            spent-few = omega arith;
          };
    }
