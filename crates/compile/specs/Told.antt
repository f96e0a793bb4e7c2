-- What a fault of the text, and a fault of building, is told as.
use Rattle.front_end.specs.declared.fault.SourceFault.{SourceFault}
use Rattle.front_end.specs.declared.fault.SourceFault.TheVariants as source_fault
use Rattle.compile.specs.declared.built.BuildFault.{BuildFault}
use Rattle.compile.specs.declared.built.BuildFault.TheVariants as build_fault
use Rattle.compile.specs.declared.compiling.CompileFault.{CompileFault}
use Rattle.compile.specs.declared.compiling.CompileFault.TheVariants as fault

abbrev pub of_source : SourceFault → CompileFault
of_source (source_fault.Fault number place) = fault.Text number place
of_source (source_fault.Memory e) = fault.Memory e

abbrev pub of_build : BuildFault → CompileFault
of_build (build_fault.TooLarge number place) = fault.Text number place
of_build (build_fault.Untimely late) = fault.Untimely late
of_build (build_fault.Memory e) = fault.Memory e
