-- What is handed out is the file's own bytes from there on, up to its end.
use native.Mathlib.Omega.{arith}
use Prim.Native.Nat.{◌-◌}
use lib.ListN.{length, drop, length-drop}
use lib.Seq.{take_all}
use mathlib.Core.Path.{refl}
use Rattle.file_read.proofs.data_set.Goals as goal

pub returns : goal.returns
returns c =
    record {
      block = refl;
      place = omega arith;
      bytes = take_all (length c.args.file.now - c.args.from)
          (drop c.args.from c.args.file.now)
          (omega (arith, length-drop c.args.from c.args.file.now));
    }
