pub mod Source
pub mod Program
pub mod ProgramLaws
pub mod OneFault
