-- Four bytes from the lowest on are two numbers of two bytes; each is below 256.
use Rattle.std.proofs.Common.{◌≡◌, ℕ, ◌+◌, get_or, ap, arith}
use Rattle.basics.specs.Bytes.{le16}
use Rattle.basics.proofs.u32_at.Goals as goal

pub returns : goal.returns
unfolding le16
returns c =
    let s = c.args.s.now in
    let p : ℕ = c.args.p in
    let last : get_or s (p + 2 + 1) 0 ≡ get_or s (p + 3) 0 = ap (λ (k : ℕ). get_or s k 0) (omega arith) in
    omega arith
