-- What a reader that stops at a limit has given.
use Rattle.std.proofs.Common.{◌≡◌, ℕ, List, [], ◌++◌, take, Some, None, Option, IfSome}
use Rattle.std.specs.Option.{option_map}

pub taken : (known : Option (List ℕ)) (n : ℕ) (start items : List ℕ) → start ≡ [] → IfSome (option_map (take n) known) (λ xs. items ≡ start ++ xs) → IfSome known (λ bytes. items ≡ take n bytes)
taken None n start items none all = tt
taken (Some bytes) n start items none all = rw none at all
