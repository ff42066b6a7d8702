mod Kept
mod KindOrder
mod Keyed
mod Behind
mod PrefixParts
mod ToldNames
mod Answered
