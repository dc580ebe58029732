mod Cases
mod Cut
mod LineWords
mod LongLines
mod PieceLaws
mod Tables
mod TextLaws
