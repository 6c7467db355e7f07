mod BesideLemmas
mod LineLemmas
mod TailLemmas
mod CompareLemmas
pub mod AlikeLemmas
mod PieceLemmas
mod LinePieceLemmas
mod KeptLemmas
mod RunLemmas
mod MergeLemmas
mod CutLemmas
mod RisingLemmas
