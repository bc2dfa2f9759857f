-- What is told of a file that can't be read.
use Rattle.std.specs.Prelude.{ℕ, List, codes}
use Rattle.explorer.specs.declared.file_fault.FileFault.{FileFault}
use Rattle.explorer.specs.declared.file_fault.FileFault.TheVariants.{Missing, Forbidden, Folder}
use Rattle.explorer.specs.declared.file_fault.FileFault.TheVariants.{NoFolder, Other}

abbrev pub fault_text : FileFault → List ℕ
fault_text Missing = codes "there is no such file"
fault_text Forbidden = codes "permission denied"
fault_text Folder = codes "it is a folder"
fault_text NoFolder = codes "its path leads through a file"
fault_text Other = codes "it can't be opened"
