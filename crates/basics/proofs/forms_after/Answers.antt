-- Each first letter has the forms of its VRs, and a letter of no arm begins no listed VR.
use mathlib.Core.List.{List, [], ◌∷◌}
use Prim.Native.Nat.{ℕ}
use Rattle.basics.specs.Vr.{form_of, listed}
use Rattle.basics.proofs.Forms.{Outside, forms-of, no-forms}
use Rattle.basics.proofs.forms_after.Goals as goal

abbrev letters : List ℕ
letters = 0x41 ∷ 0x43 ∷ 0x44 ∷ 0x46 ∷ 0x49 ∷ 0x4C ∷ 0x4F ∷ 0x50 ∷ 0x53 ∷ 0x54 ∷ 0x55 ∷ []

pub returns-in-65 : goal.returns-in-65
unfolding form_of listed
returns-in-65 c = forms-of c.args.first 0x41 0x0000_0140_0000_0400 c.in-65.is tt

pub returns-in-67 : goal.returns-in-67
unfolding form_of listed
returns-in-67 c = forms-of c.args.first 0x43 0x0000_0040_0000_0000 c.in-67.is tt

pub returns-in-68 : goal.returns-in-68
unfolding form_of listed
returns-in-68 c = forms-of c.args.first 0x44 0x0000_0140_0000_0004 c.in-68.is tt

pub returns-in-70 : goal.returns-in-70
unfolding form_of listed
returns-in-70 c = forms-of c.args.first 0x46 0x0000_0000_0100_0100 c.in-70.is tt

pub returns-in-73 : goal.returns-in-73
unfolding form_of listed
returns-in-73 c = forms-of c.args.first 0x49 0x0000_0040_0000_0000 c.in-73.is tt

pub returns-in-76 : goal.returns-in-76
unfolding form_of listed
returns-in-76 c = forms-of c.args.first 0x4C 0x0000_0100_4000_0000 c.in-76.is tt

pub returns-in-79 : goal.returns-in-79
unfolding form_of listed
returns-in-79 c = forms-of c.args.first 0x4F 0x0000_A000_0200_2220 c.in-79.is tt

pub returns-in-80 : goal.returns-in-80
unfolding form_of listed
returns-in-80 c = forms-of c.args.first 0x50 0x0000_0000_1000_0000 c.in-80.is tt

pub returns-in-83 : goal.returns-in-83
unfolding form_of listed
returns-in-83 c = forms-of c.args.first 0x53 0x0000_2148_0101_0000 c.in-83.is tt

pub returns-in-84 : goal.returns-in-84
unfolding form_of listed
returns-in-84 c = forms-of c.args.first 0x54 0x0000_0000_0400_0000 c.in-84.is tt

pub returns-in-85 : goal.returns-in-85
unfolding form_of listed
returns-in-85 c = forms-of c.args.first 0x55 0x0000_2260_2104_0080 c.in-85.is tt

pub returns-in_default : goal.returns-in_default
unfolding listed
returns-in_default c =
    let x = c.args.first in
    let r = c.in_default.in_default-own.rest in
    let none : Outside letters x = (
      r.0.0.0.0.0.0.0.0.0.0.1,
      (
        r.0.0.0.0.0.0.0.0.0.1,
        (
          r.0.0.0.0.0.0.0.0.1,
          (
            r.0.0.0.0.0.0.0.1,
            (r.0.0.0.0.0.0.1, (r.0.0.0.0.0.1, (r.0.0.0.0.1, (r.0.0.0.1, (r.0.0.1, (r.0.1, (r.1, tt))))))),
          ),
        ),
      ),
    ) in
    no-forms letters x none tt tt
