mod BatchLemmas
mod DemoLemmas
mod Outcomes
mod AgainLaw
mod Clap
mod Numbers
mod OneLine
pub mod DemoLaws
pub mod GrownLists
