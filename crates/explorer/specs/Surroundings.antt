-- What the program says of the machine's memory.
use Rattle.std.specs.Prelude.{ℕ, ◌*◌, ◌/◌, List, ◌++◌, codes}
use Rattle.std.specs.Fmt.{decimal}

-- so many worlds take more than the machine has left, which is told in KiB
abbrev pub memory_text : ℕ → ℕ → List ℕ
memory_text worlds free =
    codes "parklot: " ++ (decimal worlds ++ (codes " worlds take " ++ (decimal (worlds * 110 / 1000000)
    ++ (codes " MB and more, and the machine has " ++ (decimal (free * 1024 / 1000000)
    ++ codes " MB: where it reaches as many, the search ends for want of memory")))))
