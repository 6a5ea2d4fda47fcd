pub mod Chord
