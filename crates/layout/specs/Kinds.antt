-- The kinds of blocks, each with the number that a block says it by (Specification 9.3).
use Rattle.std.specs.Prelude.{ℕ}
use Rattle.layout.specs.declared.Kind.{Kind}
use Rattle.layout.specs.declared.Kind.TheVariants.{Header, Groups, Links}

-- the number of a kind
abbrev pub number_of : Kind → ℕ
number_of Header = 1
number_of Groups = 2
number_of Links = 3
