pub mod Texts
pub mod ProgramPrograms
pub mod Sources
pub mod ProgramLawsPrograms
