mod DrawLemmas
mod NumberedLemmas
mod RangeLemmas
mod StepLemmas
mod SumLemmas
mod TextLemmas
