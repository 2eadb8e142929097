-- What a walk over a file's bytes, piece by piece, shows about a file for which it is known what it has left.
use Rattle.std.proofs.Common.{ℕ, ◌≡◌, ◌+◌, ◌<◌, List, [], ◌++◌, length, arith, ap, sym, length-append}
use Rattle.std.proofs.lemmas.List.{append-nil}
use Rattle.std.specs.Prelude.{Option, Some, None, IfSome}
use Rattle.std.specs.Io.KnownBytes.{Consumes, IsAtEnd}
use Rattle.std.proofs.KnownBytes.{Consumes-trans, Consumes-whole}

-- a file that gave bytes had at least as many
pub given-length : (old new : Option (List ℕ)) (given : List ℕ) (most : ℕ) → Consumes old new given → most < length given
    → IfSome old (λ all. most < length all)
given-length None new given most moved long = tt
given-length (Some all) None given most moved long = absurd moved
given-length (Some all) (Some rest) given most moved long = omega (arith, ap length moved, length-append given rest)

-- a file that gave more than was wanted, in two pieces, had more
pub given-too-long : (old mid new : Option (List ℕ)) (bytes piece : List ℕ) (most : ℕ) → Consumes old mid bytes → Consumes mid new piece
    → most < length bytes + length piece → IfSome old (λ all. most < length all)
given-too-long old mid new bytes piece most first second long =
    given-length old new (bytes ++ piece) most (Consumes-trans old mid new bytes piece first second) (omega (arith, length-append bytes piece))

-- a file that gave bytes, and then no more at its end, had these bytes
pub given-whole : (old mid new : Option (List ℕ)) (bytes piece : List ℕ) → Consumes old mid bytes → Consumes mid new piece → piece ≡ []
    → IsAtEnd new → IfSome old (λ all. bytes ≡ all)
given-whole old mid new bytes piece first second none end =
    Consumes-whole old new (bytes ++ piece) (λ all. bytes ≡ all) (Consumes-trans old mid new bytes piece first second) end
    (rw none (sym (append-nil bytes)))
